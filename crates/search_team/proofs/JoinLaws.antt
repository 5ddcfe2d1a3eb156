-- Seats that are joined: what the seat of all knows, has and offers.
use Rattle.std.proofs.Common.{◌≡◌, inl, inr, ℕ, ℤ, ◌+◌, ◌≤◌, ◌∙◌, Option, Some, None, List, [], ◌∷◌, ◌++◌, length, ap, refl, sym, subst, arith}
use Rattle.std.specs.Prelude.{All}
use Rattle.std.proofs.lemmas.Int.{ints}
use Rattle.std.proofs.lemmas.List.{append-nil, append_assoc}
use Rattle.std.proofs.lemmas.List.Elements.{All-cons, All-head, All-nil, All-tail, All-weaker}
use Rattle.number_laws.specs.Missing.{IsAtMost, greater}
use Rattle.number_laws.proofs.MissingLaws.{IsAtMost-refl, IsAtMost-trans, IsGreaterOf-greater}
use Rattle.plan_build.specs.Built.{found_margin}
use Rattle.plant_model.specs.declared.parts.Parts.{Parts}
use Rattle.search_board.specs.Seats.{SeatView, first_told, joined_seat, seat_from}
use Rattle.search_node.specs.declared.looked.NodeNote.{NodeNote}
use Rattle.slot_box.specs.declared.node.Leaf.{Leaf as LeafKind}
use Rattle.slot_box.specs.declared.node.Node.{Node}
use Rattle.slot_box.specs.declared.node.Node.TheVariants.{Inner, Leaf}
use Rattle.branch_worker.specs.declared.site.Done.{Done}
use Rattle.branch_worker.specs.declared.site.Me.{Me}
use Rattle.branch_worker.specs.Work.{IsLeftOpenOrBeaten, IsLeftWell}
use Rattle.search_team.specs.inside.Apart.{AreDone, greatest_found, joined_all}

-- ---- the greater of several

-- in whichever order
at-most-both : (a b : Option ℤ) → IsAtMost a b → IsAtMost b a → a ≡ b
at-most-both None None first second = refl
at-most-both None (Some y) first second = absurd second
at-most-both (Some x) None first second = absurd first
at-most-both (Some x) (Some y) first second = ap Some (omega (arith, ints, first, second))

pub greater-below : (a b most : Option ℤ) → IsAtMost a most → IsAtMost b most → IsAtMost (greater a b) most
greater-below a b most first second =
    elim (IsGreaterOf-greater a b).either [
      | inl is ↦ subst (λ (m : Option ℤ). IsAtMost m most) (sym is) first
      | inr is ↦ subst (λ (m : Option ℤ). IsAtMost m most) (sym is) second
    ]

pub greater-assoc : (a b c : Option ℤ) → greater (greater a b) c ≡ greater a (greater b c)
greater-assoc a b c =
    let ab = IsGreaterOf-greater a b in
    let bc = IsGreaterOf-greater b c in
    let left = IsGreaterOf-greater (greater a b) c in
    let right = IsGreaterOf-greater a (greater b c) in
    at-most-both (greater (greater a b) c) (greater a (greater b c))
    (greater-below (greater a b) c (greater a (greater b c))
    (greater-below a b (greater a (greater b c)) right.first (IsAtMost-trans b (greater b c) (greater a (greater b c)) bc.first right.second))
    (IsAtMost-trans c (greater b c) (greater a (greater b c)) bc.second right.second))
    (greater-below a (greater b c) (greater (greater a b) c) (IsAtMost-trans a (greater a b) (greater (greater a b) c) ab.first left.first)
    (greater-below b c (greater (greater a b) c) (IsAtMost-trans b (greater a b) (greater (greater a b) c) ab.second left.first) left.second))

greater-none : (a : Option ℤ) → greater a None ≡ a
greater-none None = refl
greater-none (Some x) = refl

greatest-more : (most : Option ℤ) (dones : List Done) → greatest_found most dones ≡ greater most (greatest_found None dones)
greatest-more most [] = sym (greater-none most)
greatest-more most (done ∷ dones) =
    let its = found_margin done.found in
    greatest-more (greater most its) dones ∙ greater-assoc most its (greatest_found None dones) ∙ ap (greater most) (sym (greatest-more its dones))

-- ---- as a seat learns more

-- a seat that was told, offered and seen no less
pub record KnowsMore (old new : SeatView) : Type 0 where
  pub told : (number : ℕ) → old.told ≡ Some number → (other : ℕ) × (new.told ≡ Some other)
  pub offer : IsAtMost old.offer new.offer
  pub seen : IsAtMost old.seen new.seen

pub KnowsMore-same : (seat : SeatView) → KnowsMore seat seat
KnowsMore-same seat = record { told = λ number is. (number, is); offer = IsAtMost-refl seat.offer; seen = IsAtMost-refl seat.seen }

pub KnowsMore-trans : (a b c : SeatView) → KnowsMore a b → KnowsMore b c → KnowsMore a c
KnowsMore-trans a b c first second = record {
  told = λ number is. (let between = first.told number is in second.told between.0 between.1);
  offer = IsAtMost-trans a.offer b.offer c.offer first.offer second.offer;
  seen = IsAtMost-trans a.seen b.seen c.seen first.seen second.seen;
}

told-first : (first second : Option ℕ) (number : ℕ) → first ≡ Some number → first_told first second ≡ Some number
told-first first second number is = subst (λ (t : Option ℕ). first_told t second ≡ Some number) (sym is) refl

told-second : (first second : Option ℕ) (number : ℕ) → second ≡ Some number → (other : ℕ) × (first_told first second ≡ Some other)
told-second None second number is = (number, is)
told-second (Some told) second number is = (told, refl)

pub KnowsMore-into : (into done : SeatView) → KnowsMore into (joined_seat into done)
KnowsMore-into into done = record {
  told = λ number is. (number, told-first into.told done.told number is);
  offer = (IsGreaterOf-greater into.offer done.offer).first;
  seen = (IsGreaterOf-greater into.seen done.seen).first;
}

pub KnowsMore-done : (into done : SeatView) → KnowsMore done (joined_seat into done)
KnowsMore-done into done = record {
  told = λ number is. told-second into.told done.told number is;
  offer = (IsGreaterOf-greater into.offer done.offer).second;
  seen = (IsGreaterOf-greater into.seen done.seen).second;
}

left-more : (old new : SeatView) → KnowsMore old new → (leaf : LeafKind) (value : Option ℤ) → IsLeftOpenOrBeaten old leaf value →
    IsLeftOpenOrBeaten new leaf value
left-more old new more leaf value left = record {
  told = λ is_open. (let told = left.told is_open in more.told told.0 told.1);
  beaten = elim left.beaten [
    | inl is_open ↦ inl is_open
    | inr beaten ↦
        let most = IsGreaterOf-greater new.offer new.seen in
        inr (IsAtMost-trans value (greater old.offer old.seen) (greater new.offer new.seen) beaten
        (greater-below old.offer old.seen (greater new.offer new.seen) (IsAtMost-trans old.offer new.offer (greater new.offer new.seen) more.offer most.first)
        (IsAtMost-trans old.seen new.seen (greater new.offer new.seen) more.seen most.second)))
  ];
}

left-well-more : (old new : SeatView) → KnowsMore old new → (note : NodeNote) → IsLeftWell old note → IsLeftWell new note
left-well-more old new more note = by note.node refl
  where
    by : (node : Node) → note.node ≡ node → IsLeftWell old note → IsLeftWell new note
    by (Inner ticket split) is left = rw is tt
    by (Leaf leaf) is left = (let was : IsLeftOpenOrBeaten old leaf note.value = rw is at left in rw is (left-more old new more leaf note.value was))

pub all-left-more : (old new : SeatView) → KnowsMore old new → (notes : List NodeNote) → All (IsLeftWell old) notes → All (IsLeftWell new) notes
all-left-more old new more = All-weaker (IsLeftWell old) (IsLeftWell new) (left-well-more old new more)

-- ---- the seat of all

pub joined-board : (seat : SeatView) (dones : List Done) → (joined_all seat dones).board ≡ seat.board
joined-board seat [] = refl
joined-board seat (done ∷ dones) = joined-board (joined_seat seat done.seat) dones

pub joined-may : (seat : SeatView) (dones : List Done) → seat.may ≤ (joined_all seat dones).may
joined-may seat [] = omega arith
joined-may seat (done ∷ dones) = (let rest = joined-may (joined_seat seat done.seat) dones in omega (arith, rest))

-- the tickets of all workers, one after another
abbrev pub all_tickets : List Done → List ℕ
all_tickets [] = []
all_tickets (done ∷ dones) = done.seat.tickets ++ all_tickets dones

pub joined-tickets : (seat : SeatView) (dones : List Done) → (joined_all seat dones).tickets ≡ seat.tickets ++ all_tickets dones
joined-tickets seat [] = sym (append-nil seat.tickets)
joined-tickets seat (done ∷ dones) =
    joined-tickets (joined_seat seat done.seat) dones ∙ append_assoc seat.tickets done.seat.tickets (all_tickets dones)

pub joined-knows : (seat : SeatView) (dones : List Done) → KnowsMore seat (joined_all seat dones)
joined-knows seat [] = KnowsMore-same seat
joined-knows seat (done ∷ dones) =
    KnowsMore-trans seat (joined_seat seat done.seat) (joined_all (joined_seat seat done.seat) dones) (KnowsMore-into seat done.seat)
    (joined-knows (joined_seat seat done.seat) dones)

-- it knows what each of them knows
abbrev pub IsKnownOf : SeatView → Done → Type 0
IsKnownOf seat done = KnowsMore done.seat seat

pub joined-knows-each : (seat : SeatView) (dones : List Done) → All (IsKnownOf (joined_all seat dones)) dones
joined-knows-each seat [] = All-nil (IsKnownOf seat)
joined-knows-each seat (done ∷ dones) =
    let all = joined_all (joined_seat seat done.seat) dones in
    All-cons (IsKnownOf all) done dones
    (KnowsMore-trans done.seat (joined_seat seat done.seat) all (KnowsMore-done seat done.seat) (joined-knows (joined_seat seat done.seat) dones))
    (joined-knows-each (joined_seat seat done.seat) dones)

module _ (parts : Parts) (n : ℕ) (from : SeatView) where
  abbrev IsFrom : Me → Type 0
  IsFrom me = me.seat ≡ seat_from from

  -- each worker's seat stands for itself alone
  pub joined-seats : (seat : SeatView) (mes : List Me) (dones : List Done) → AreDone parts n mes dones → All IsFrom mes →
      (joined_all seat dones).stands + (joined_all seat dones).may ≡ seat.stands + seat.may + length dones
  joined-seats seat [] [] are from_it = omega arith
  joined-seats seat [] (done ∷ dones) are from_it = absurd are
  joined-seats seat (me ∷ mes) [] are from_it = absurd are
  joined-seats seat (me ∷ mes) (done ∷ dones) are from_it =
      let its = All-head IsFrom me mes from_it in
      let stands = are.0.work.seat.stands ∙ ap (λ (s : SeatView). s.stands) its in
      let may = are.0.work.seat.may ∙ ap (λ (s : SeatView). s.may) its in
      let rest = joined-seats (joined_seat seat done.seat) mes dones are.1 (All-tail IsFrom me mes from_it) in
      omega (arith, stands, may, rest)

  joined-offers : (seat : SeatView) (mes : List Me) (dones : List Done) → AreDone parts n mes dones → (joined_all seat dones).offer ≡ greatest_found seat.offer dones
  joined-offers seat [] [] are = refl
  joined-offers seat [] (done ∷ dones) are = absurd are
  joined-offers seat (me ∷ mes) [] are = absurd are
  joined-offers seat (me ∷ mes) (done ∷ dones) are =
      joined-offers (joined_seat seat done.seat) mes dones are.1
      ∙ ap (λ (m : Option ℤ). greatest_found (greater seat.offer m) dones) are.0.work.best.offered

  -- its offer is the best of what was offered before and what they found
  pub joined-offer : (seat : SeatView) (mes : List Me) (dones : List Done) → AreDone parts n mes dones →
      (joined_all seat dones).offer ≡ greater seat.offer (greatest_found None dones)
  joined-offer seat mes dones are = joined-offers seat mes dones are ∙ greatest-more seat.offer dones
