-- Lists of notes that grow at their end.
use Rattle.std.proofs.Common.{◌≡◌, ℕ, inl, inr, ℤ, Option, Some, List, [], ◌∷◌, ◌++◌, ap, refl, sym, subst}
use Rattle.std.specs.Prelude.{All}
use Rattle.std.proofs.lemmas.List.Elements.{All-get_or, All-weaker}
use Rattle.std.proofs.lemmas.List.Quantifiers.{all_pairs_push}
use Rattle.number_laws.specs.Missing.{greater, IsAtMost}
use Rattle.number_laws.proofs.MissingLaws.{IsAtMost-trans, IsGreaterOf-greater}
use Rattle.slot_box.specs.declared.node.Leaf.{Leaf as LeafKind}
use Rattle.slot_box.specs.declared.node.Node.{Node}
use Rattle.slot_box.specs.declared.node.Node.TheVariants.{Inner, Leaf}
use Rattle.search_board.specs.Seats.{SeatView}
use Rattle.search_node.specs.declared.looked.NodeNote.{NodeNote}
use Rattle.branch_worker.specs.NoteOrder.{IsInnerNode, IsSeenBefore, AreSeenInTurn, ValuesFall}
use Rattle.branch_worker.specs.Work.{IsLeftOpenOrBeaten, IsLeftWell}
use Rattle.branch_worker.specs.inside.Working.{IsKnownTo, IsSeenBy}

-- ---- what was seen

pub in_turn-push : (notes : List NodeNote) (note : NodeNote) → AreSeenInTurn notes → All (λ first. IsSeenBefore first note) notes →
    AreSeenInTurn (notes ++ note ∷ [])
in_turn-push notes note in_turn before =
    all_pairs_push IsSeenBefore notes note in_turn (λ k d below. All-get_or (λ first. IsSeenBefore first note) notes k d below before)

-- a note of what the seat has seen comes after notes that the seat has seen
pub seen-before : (seat : SeatView) (note : NodeNote) → note.seen ≡ seat.seen → (notes : List NodeNote) → All (IsSeenBy seat) notes →
    All (λ first. IsSeenBefore first note) notes
seen-before seat note same notes seen =
    All-weaker (IsSeenBy seat) (λ first. IsSeenBefore first note)
    (λ first by. record {
      seen = subst (λ (s : Option ℤ). IsAtMost first.seen s) (sym same) by.seen;
      point = λ is. subst (λ (s : Option ℤ). IsAtMost first.value s) (sym same) (by.point is);
    }) notes seen

-- ---- values along a chain

-- what the last note owes to the next
abbrev pub Precedes : List NodeNote → NodeNote → Type 0
Precedes notes note =
    (before : List NodeNote) (last : NodeNote) → notes ≡ before ++ last ∷ [] → IsInnerNode last.node → IsAtMost note.value last.value

pub falling-push : (notes : List NodeNote) (note : NodeNote) → ValuesFall notes → Precedes notes note → ValuesFall (notes ++ note ∷ [])
falling-push [] note falling precedes = (tt, tt)
falling-push (a ∷ []) note falling precedes = ((λ inner. precedes [] a refl inner), (tt, tt))
falling-push (a ∷ b ∷ notes) note falling precedes =
    (falling.0, falling-push (b ∷ notes) note falling.1 (λ before last is inner. precedes (a ∷ before) last (ap (λ (l : List NodeNote). a ∷ l) is) inner))

-- ---- as a seat learns more

-- a seat that was told, offered and seen no less
pub record KnowsMore (old new : SeatView) : Type 0 where
  pub told : (number : ℕ) → old.told ≡ Some number → (other : ℕ) × (new.told ≡ Some other)
  pub offer : IsAtMost old.offer new.offer
  pub seen : IsAtMost old.seen new.seen

greater-mono : (a b c d : Option ℤ) → IsAtMost a c → IsAtMost b d → IsAtMost (greater a b) (greater c d)
greater-mono a b c d first second =
    let most = IsGreaterOf-greater c d in
    elim (IsGreaterOf-greater a b).either [
      | inl is ↦ subst (λ (m : Option ℤ). IsAtMost m (greater c d)) (sym is) (IsAtMost-trans a c (greater c d) first most.first)
      | inr is ↦ subst (λ (m : Option ℤ). IsAtMost m (greater c d)) (sym is) (IsAtMost-trans b d (greater c d) second most.second)
    ]

left-more : (old new : SeatView) → KnowsMore old new → (leaf : LeafKind) (value : Option ℤ) → IsLeftOpenOrBeaten old leaf value →
    IsLeftOpenOrBeaten new leaf value
left-more old new more leaf value left = record {
  told = λ is_open. (let told = left.told is_open in more.told told.0 told.1);
  beaten = elim left.beaten [
    | inl is_open ↦ inl is_open
    | inr beaten ↦ inr (IsAtMost-trans value (greater old.offer old.seen) (greater new.offer new.seen) beaten
        (greater-mono old.offer old.seen new.offer new.seen more.offer more.seen))
  ];
}

left-well-more : (old new : SeatView) → KnowsMore old new → (note : NodeNote) → IsLeftWell old note → IsLeftWell new note
left-well-more old new more note = by note.node refl
  where
    by : (node : Node) → note.node ≡ node → IsLeftWell old note → IsLeftWell new note
    by (Inner ticket split) is left = rw is tt
    by (Leaf leaf) is left = (let was : IsLeftOpenOrBeaten old leaf note.value = rw is at left in rw is (left-more old new more leaf note.value was))

pub all-left-more : (old new : SeatView) → KnowsMore old new → (notes : List NodeNote) → All (IsLeftWell old) notes → All (IsLeftWell new) notes
all-left-more old new more = All-weaker (IsLeftWell old) (IsLeftWell new) (left-well-more old new more)

pub all-known-more : (old new : SeatView) → KnowsMore old new → (notes : List NodeNote) → All (IsKnownTo old) notes → All (IsKnownTo new) notes
all-known-more old new more =
    All-weaker (IsKnownTo old) (IsKnownTo new) (λ note known. record {
      seen = IsAtMost-trans note.seen old.seen new.seen known.seen more.seen;
      point = λ is. IsAtMost-trans note.value old.offer new.offer (known.point is) more.offer;
    })
