-- The notes of leaves are true.
use Rattle.std.proofs.Common.{◌≡◌, ℕ, inl, inr, ℤ, Option, Some, None, ap, ◌∙◌, subst}
use Rattle.std.specs.Prelude.{◌↔◌, IfSome}
use Rattle.number_laws.specs.Missing.{greater, IsAtMost}
use Rattle.number_laws.proofs.MissingLaws.{IsAtMost-trans, IsGreaterOf-greater}
use Rattle.slot_box.specs.declared.node.Leaf.{Leaf as LeafKind}
use Rattle.slot_box.specs.declared.node.Leaf.TheVariants.{Dead, Void, Dual, Undone, Point}
use Rattle.slot_box.specs.declared.node.Node.{Node}
use Rattle.slot_box.specs.declared.node.Node.TheVariants.{Inner, Leaf}
use Rattle.slot_box.specs.declared.split.Split.{Split}
use Rattle.slot_box.specs.Tasks.{TaskParts}
use Rattle.leaf_value.specs.Blocked.{IsBlocked}
use Rattle.leaf_value.specs.LeafValue.{leaf_value_of}
use Rattle.leaf_value.specs.Settings.{Setting}
use Rattle.search_board.specs.Seats.{SeatView}
use Rattle.search_node.specs.declared.looked.Examined.{Examined}
use Rattle.search_node.specs.declared.looked.Examined.TheVariants.{Closed, Splittable}
use Rattle.search_node.specs.Looks.{ClosesBox, SaysDead}
use Rattle.leaf_value.specs.PlainGuesses.{IsBelowPlainGuesses}
use Rattle.search_node.specs.Values.{IsValueFor}
use Rattle.branch_worker.specs.NoteBoxes.{IsTrueNote}
use Rattle.branch_worker.specs.Work.{IsLeftOpenOrBeaten}
use Rattle.branch_worker.specs.inside.Working.{IsBelowWarm, IsUndecided, closed_leaf, note_over}

-- ---- values

below-plain : (setting : Setting) (task : TaskParts) (value : Option ℤ) → IfSome value (IsValueFor setting task) → IfSome value (IsBelowPlainGuesses setting task.box)
below-plain setting task None is = tt
below-plain setting task (Some value) is = is.plain

pub below-warm : (setting : Setting) (task : TaskParts) (value : Option ℤ) → IfSome value (IsValueFor setting task) → IsBelowWarm setting task value
below-warm setting task None is = tt
below-warm setting task (Some value) is = is.warm

-- ---- a box that an examination has closed

leaf_in : Examined → LeafKind
leaf_in (Closed leaf value) = leaf
leaf_in (Splittable value leaf split) = leaf

leaf_of : Node → LeafKind
leaf_of (Leaf leaf) = leaf
leaf_of (Inner ticket split) = Point

module _ (setting : Setting) (task : TaskParts) (seen : Option ℤ) (leaf : LeafKind) (value : Option ℤ) (closes : ClosesBox setting task seen leaf value)
    (dead : (at : ℕ) → SaysDead (Closed leaf value) at ↔ IsBlocked setting.case task.box at) where
  says : (at : ℕ) → leaf ≡ Dead at → SaysDead (Closed leaf value) at
  says at is =
      let none : value ≡ None = closes.leaf_for.valued ∙ ap (leaf_value_of setting task.box) is in
      ap (λ (l : LeafKind). Closed l value) is ∙ ap (Closed (Dead at)) none

  pub true-closed : IsTrueNote setting (note_over task (Leaf leaf) value seen)
  unfolding leaf_of leaf_in
  true-closed = record {
    outcome = record { lawful = closes.leaf_for.lawful; valued = closes.leaf_for.valued; several = λ is_open. absurd (closes.closed is_open) };
    in_range = closes.leaf_for.in_range;
    dead = λ at. ((λ is. (dead at).0 (says at (ap leaf_of is))), (λ blocked. ap (λ (e : Examined). Leaf (leaf_in e)) ((dead at).1 blocked)));
    plain = below-plain setting task value closes.leaf_for.bounded;
  }

  pub left-closed : (seat : SeatView) → seen ≡ seat.seen → (leaf ≡ Point → IsAtMost value seat.offer) → IsLeftOpenOrBeaten seat leaf value
  left-closed seat same point =
      let most = IsGreaterOf-greater seat.offer seat.seen in
      record {
        told = λ is_open. absurd (closes.closed is_open);
        beaten = inr (elim closes.beaten [
          | inl is ↦ IsAtMost-trans value seat.offer (greater seat.offer seat.seen) (point is) most.first
          | inr beaten ↦ IsAtMost-trans value seat.seen (greater seat.offer seat.seen) (subst (λ (s : Option ℤ). IsAtMost value s) same beaten) most.second
        ]);
      }

-- ---- a box that might be divided

pub true-beaten : (setting : Setting) (task : TaskParts) (value : ℤ) (leaf : LeafKind) (split : Split) (seen : Option ℤ) → IsUndecided setting task value leaf split →
    IsTrueNote setting (note_over task (Leaf (closed_leaf leaf)) (Some value) seen)
true-beaten setting task value (Undone q terms) split seen undecided = record {
  outcome = record { lawful = undecided.leaf_for.lawful; valued = undecided.leaf_for.valued; several = λ is_open. absurd is_open };
  in_range = undecided.leaf_for.in_range;
  dead = λ at. ((λ is. cc), (λ blocked. absurd (undecided.alive at blocked)));
  plain = undecided.leaf_for.bounded.plain;
}
true-beaten setting task value (Dead at) split seen undecided = absurd undecided.open_leaf
true-beaten setting task value (Void terms) split seen undecided = absurd undecided.open_leaf
true-beaten setting task value (Dual q terms) split seen undecided = absurd undecided.open_leaf
true-beaten setting task value Point split seen undecided = absurd undecided.open_leaf

pub true-open : (setting : Setting) (task : TaskParts) (value : ℤ) (leaf : LeafKind) (split : Split) (seen : Option ℤ) → IsUndecided setting task value leaf split →
    IsTrueNote setting (note_over task (Leaf leaf) (Some value) seen)
true-open setting task value (Undone q terms) split seen undecided = record {
  outcome = record { lawful = undecided.leaf_for.lawful; valued = undecided.leaf_for.valued; several = λ is_open. undecided.several };
  in_range = undecided.leaf_for.in_range;
  dead = λ at. ((λ is. cc), (λ blocked. absurd (undecided.alive at blocked)));
  plain = undecided.leaf_for.bounded.plain;
}
true-open setting task value (Dead at) split seen undecided = absurd undecided.open_leaf
true-open setting task value (Void terms) split seen undecided = absurd undecided.open_leaf
true-open setting task value (Dual q terms) split seen undecided = absurd undecided.open_leaf
true-open setting task value Point split seen undecided = absurd undecided.open_leaf

-- neither leaf is that of a point
pub not-point : (setting : Setting) (task : TaskParts) (value : ℤ) (leaf : LeafKind) (split : Split) → IsUndecided setting task value leaf split →
    (leaf ≡ Point → ⊥) × (closed_leaf leaf ≡ Point → ⊥)
not-point setting task value (Undone q terms) split undecided = ((λ is. cc), (λ is. cc))
not-point setting task value (Dead at) split undecided = absurd undecided.open_leaf
not-point setting task value (Void terms) split undecided = absurd undecided.open_leaf
not-point setting task value (Dual q terms) split undecided = absurd undecided.open_leaf
not-point setting task value Point split undecided = absurd undecided.open_leaf

pub left-beaten : (setting : Setting) (task : TaskParts) (value : ℤ) (leaf : LeafKind) (split : Split) (seen : Option ℤ) → IsUndecided setting task value leaf split →
    (seat : SeatView) → seen ≡ seat.seen → IsAtMost (Some value) seen → IsLeftOpenOrBeaten seat (closed_leaf leaf) (Some value)
left-beaten setting task value (Undone q terms) split seen undecided seat same beaten =
    let most = IsGreaterOf-greater seat.offer seat.seen in
    record {
      told = λ is_open. absurd is_open;
      beaten = inr (IsAtMost-trans (Some value) seat.seen (greater seat.offer seat.seen) (subst (λ (s : Option ℤ). IsAtMost (Some value) s) same beaten)
          most.second);
    }
left-beaten setting task value (Dead at) split seen undecided seat same beaten = absurd undecided.open_leaf
left-beaten setting task value (Void terms) split seen undecided seat same beaten = absurd undecided.open_leaf
left-beaten setting task value (Dual q terms) split seen undecided seat same beaten = absurd undecided.open_leaf
left-beaten setting task value Point split seen undecided seat same beaten = absurd undecided.open_leaf

pub left-open : (setting : Setting) (task : TaskParts) (value : ℤ) (leaf : LeafKind) (split : Split) → IsUndecided setting task value leaf split →
    (seat : SeatView) → (number : ℕ) × (seat.told ≡ Some number) → IsLeftOpenOrBeaten seat leaf (Some value)
left-open setting task value leaf split undecided seat told = record { told = λ is_open. told; beaten = inl undecided.open_leaf }
