-- What an examination of a task's box answers: how the box is closed, or how it may be divided, and perhaps a plan.
use Rattle.std.specs.Prelude.{◌≡◌, ◌↔◌, ◌⊎◌, ℕ, ◌≤◌, ℤ, ◌<ℤ◌, List, length, Option, Some, None, IfSome, false, ⊤}
use Rattle.number_laws.specs.Missing.{IsAtMost}
use Rattle.plan_build.specs.Built.{IsPlanned}
use Rattle.plant_model.specs.declared.parts.Parts.{Parts}
use Rattle.plant_model.specs.Parts.{greatest_volume_of, horizon_of, op_count_of}
use Rattle.replay_core.specs.declared.planned.Planned.{Planned}
use Rattle.slot_box.specs.declared.node.Leaf.{Leaf}
use Rattle.slot_box.specs.declared.node.Leaf.TheVariants.{Dead, Void, Dual, Undone, Point}
use Rattle.slot_box.specs.declared.slot.Slot.{Slot}
use Rattle.slot_box.specs.declared.split.Split.{Split}
use Rattle.slot_box.specs.Boxes.{IsWithinRoot, only_point, points_of}
use Rattle.slot_box.specs.Ranges.{IsLeafInRange}
use Rattle.slot_box.specs.Splits.{IsLawfulSplit}
use Rattle.slot_box.specs.Tasks.{TaskParts}
use Rattle.slot_forms.specs.Forms.{word_of}
use Rattle.slot_words.specs.ByStart.{IsByStart}
use Rattle.leaf_value.specs.Blocked.{IsBlocked}
use Rattle.leaf_value.specs.Budget.{IsOpen}
use Rattle.leaf_value.specs.LeafValue.{IsLawfulLeaf, are_contradictory, leaf_value_of}
use Rattle.leaf_value.specs.Settings.{Setting, plain_setting}
use Rattle.search_node.specs.declared.looked.Examined.{Examined}
use Rattle.search_node.specs.declared.looked.Examined.TheVariants.{Closed, Splittable}
use Rattle.search_node.specs.declared.looked.Looked.{Looked}
use Rattle.slot_box.specs.Even.{IsEvenSplit}
use Rattle.search_node.specs.Values.{IsValueFor}

-- what may be examined: a box of n slots within the root box of the plant
pub record IsTaskOf (parts : Parts) (n : ℕ) (task : TaskParts) : Type 0 where
  pub slots : length task.box ≡ n
  pub within : IsWithinRoot (op_count_of parts) (greatest_volume_of parts) (horizon_of parts) task.box

-- ---- leaves

-- entries that bound a box do not contradict each other there: where they do, the leaf is void
abbrev pub HasNoContradiction : Setting → List Slot → Leaf → Type 0
HasNoContradiction setting box (Dead at) = ⊤
HasNoContradiction setting box (Void terms) = ⊤
HasNoContradiction setting box (Dual q terms) = are_contradictory setting box terms ≡ false
HasNoContradiction setting box (Undone q terms) = are_contradictory setting box terms ≡ false
HasNoContradiction setting box Point = ⊤

-- a leaf for the task's box with this value: it is lawful there, it has the value, and the value is one that the box
-- may get
pub record IsLeafFor (setting : Setting) (task : TaskParts) (leaf : Leaf) (value : Option ℤ) : Type 0 where
  pub lawful : IsLawfulLeaf setting task.box leaf
  pub in_range : IsLeafInRange leaf
  pub valued : value ≡ leaf_value_of setting task.box leaf
  pub at_one : HasNoContradiction setting task.box leaf
  pub bounded : IfSome value (IsValueFor setting task)

-- the leaf is the box's one point
abbrev pub IsPointLeaf : Leaf → Type 0
IsPointLeaf leaf = leaf ≡ Point

-- the box is closed for good: the leaf is not left open, and unless it is the one point its value, where it has one,
-- does not beat the best margin that was seen
pub record ClosesBox (setting : Setting) (task : TaskParts) (seen : Option ℤ) (leaf : Leaf) (value : Option ℤ)
    : Type 0 where
  pub leaf_for : IsLeafFor setting task leaf value
  pub closed : IsOpen leaf → ⊥
  pub beaten : IsPointLeaf leaf ⊎ IsAtMost value seen

-- ---- splits

-- the value beats the best margin that was seen, if there was one
abbrev pub Beats : ℤ → Option ℤ → Type 0
Beats value None = ⊤
Beats value (Some best) = best <ℤ value

-- the box may be divided: it has two points or more, its value beats what was seen, and the split is lawful and even;
-- the leaf says what the box is worth if it is left open
pub record MayDivideBox (setting : Setting) (task : TaskParts) (seen : Option ℤ) (value : ℤ) (leaf : Leaf)
    (split : Split) : Type 0 where
  pub several : 2 ≤ points_of task.box
  pub beats : Beats value seen
  pub leaf_for : IsLeafFor setting task leaf (Some value)
  pub open_leaf : IsOpen leaf
  pub lawful : IsLawfulSplit task.box split
  pub even : IsEvenSplit task.box split

-- ---- the answer

-- the box is closed or may be divided
abbrev pub IsExamined : Setting → TaskParts → Option ℤ → Examined → Type 0
IsExamined setting task seen (Closed leaf value) = ClosesBox setting task seen leaf value
IsExamined setting task seen (Splittable value leaf split) = MayDivideBox setting task seen value leaf split

-- the answer is that the operations to which the first slots are fixed begin no form that is sought, and that those up
-- to this slot are the fewest that do not
abbrev pub SaysDead : Examined → ℕ → Type 0
SaysDead what at = what ≡ Closed (Dead at) None

-- a plan of the one point of a box: its operations by their starts
pub record IsPlanOfPoint (box : List Slot) (margin : ℤ) (planned : Planned) : Type 0 where
  pub operations : IsByStart (word_of (only_point box)) planned.plan
  pub earns : planned.margin ≡ margin

-- a point that has a value, since its word breaks no rule, gives its plan
abbrev pub GivesPlanOfPoint : List Slot → Looked → Type 0
GivesPlanOfPoint box looked =
    (margin : ℤ) → looked.what ≡ Closed Point (Some margin)
    → (planned : Planned) × (looked.found ≡ Some planned) × IsPlanOfPoint box margin planned

-- what an examination owes, for the plain case of n slots
pub record IsLook (parts : Parts) (n : ℕ) (task : TaskParts) (seen : Option ℤ) (looked : Looked) : Type 0 where
  -- that the box is dead is said exactly where it is
  pub dead : (at : ℕ) → SaysDead looked.what at ↔ IsBlocked (plain_setting parts n).case task.box at
  pub examined : IsExamined (plain_setting parts n) task seen looked.what
  -- a plan is legal, has at most n operations, and has the margin that it names
  pub plan : IfSome looked.found (IsPlanned parts n)
  pub plan_of_point : GivesPlanOfPoint task.box looked
