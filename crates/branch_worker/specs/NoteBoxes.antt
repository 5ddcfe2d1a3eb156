-- What a note of a worker says of the box of its node. A worker keeps no boxes: that there are boxes, one a note, of
-- which all this is so, is what is promised.
use Rattle.std.specs.Prelude.{◌≡◌, ◌↔◌, ℕ, ◌≤◌, ℤ, Option, Some, IfSome, List}
use Rattle.slot_box.specs.declared.node.Leaf.{Leaf as LeafKind}
use Rattle.slot_box.specs.declared.node.Leaf.TheVariants.{Dead}
use Rattle.slot_box.specs.declared.node.Node.{Node}
use Rattle.slot_box.specs.declared.node.Node.TheVariants.{Inner, Leaf}
use Rattle.slot_box.specs.declared.slot.Slot.{Slot}
use Rattle.slot_box.specs.declared.split.Split.{Split}
use Rattle.slot_box.specs.Boxes.{points_of}
use Rattle.slot_box.specs.Ranges.{IsNodeInRange}
use Rattle.slot_box.specs.Splits.{IsLawfulSplit}
use Rattle.leaf_value.specs.Blocked.{IsBlocked}
use Rattle.leaf_value.specs.Budget.{IsOpen}
use Rattle.leaf_value.specs.LeafValue.{IsLawfulLeaf, leaf_value_of}
use Rattle.leaf_value.specs.Settings.{Setting}
use Rattle.slot_box.specs.Even.{IsEvenSplit}
use Rattle.search_node.specs.Looks.{Beats}
use Rattle.search_node.specs.Notes.{NoteOver}
use Rattle.leaf_value.specs.PlainGuesses.{IsBelowPlainGuesses}

-- a node that was divided: its split is lawful and even, and its value beats the best margin that the worker had seen
pub record IsDivided (setting : Setting) (box : List Slot) (split : Split) (value seen : Option ℤ) : Type 0 where
  pub lawful : IsLawfulSplit box split
  pub even : IsEvenSplit box split
  pub worth : ℤ
  pub valued : value ≡ Some worth
  pub beats : Beats worth seen
  -- the value is that of lawful entries, so no form that is sought earns more in the box
  pub leaf : LeafKind
  pub open_leaf : IsOpen leaf
  pub lawful_leaf : IsLawfulLeaf setting box leaf
  pub by_leaf : value ≡ leaf_value_of setting box leaf

-- a leaf: it is lawful, the value is its own, and it is left open only where its box has two points or more
pub record IsLeft (setting : Setting) (box : List Slot) (leaf : LeafKind) (value : Option ℤ) : Type 0 where
  pub lawful : IsLawfulLeaf setting box leaf
  pub valued : value ≡ leaf_value_of setting box leaf
  pub several : IsOpen leaf → 2 ≤ points_of box

-- what became of the node
abbrev pub IsOutcome : Setting → List Slot → Node → Option ℤ → Option ℤ → Type 0
IsOutcome setting box (Inner ticket split) value seen = IsDivided setting box split value seen
IsOutcome setting box (Leaf leaf) value seen = IsLeft setting box leaf value

-- what every note says of its box
pub record IsTrueNote (setting : Setting) (over : NoteOver) : Type 0 where
  pub outcome : IsOutcome setting over.box over.note.node over.note.value over.note.seen
  pub in_range : IsNodeInRange over.note.node
  -- a leaf is dead exactly where the operations to which the first slots are fixed begin no form that is sought, and no
  -- such box is divided
  pub dead : (at : ℕ) → (over.note.node ≡ Leaf (Dead at)) ↔ IsBlocked setting.case over.box at
  -- a value is no greater than what any plain guess gives
  pub plain : IfSome over.note.value (IsBelowPlainGuesses setting over.box)
