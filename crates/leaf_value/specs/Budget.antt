-- What a search tree owes to the budget of inner nodes that it was made with.
use Rattle.std.specs.Prelude.{◌≡◌, ◌⊎◌, ℕ, ◌+◌, ◌≤◌, ℤ, List, Option}
use Rattle.number_laws.specs.Missing.{IsAtMost}
use Rattle.slot_box.specs.declared.node.Leaf.{Leaf as LeafKind}
use Rattle.slot_box.specs.declared.node.Leaf.TheVariants.{Dead, Void, Dual, Undone, Point}
use Rattle.slot_box.specs.declared.node.Node.{Node}
use Rattle.slot_box.specs.declared.slot.Slot.{Slot}
use Rattle.slot_box.specs.Boxes.{points_of}
use Rattle.slot_box.specs.Nodes.{inner_count}
use Rattle.slot_forms.specs.Cases.{root_box}
use Rattle.leaf_value.specs.Settings.{Setting}
use Rattle.leaf_value.specs.LeafValue.{leaf_value_of}
use Rattle.leaf_value.specs.TreeValue.{IsLeafOver}

-- the leaf was left open
abbrev pub IsOpen : LeafKind → Type 0
IsOpen (Dead at) = ⊥
IsOpen (Void terms) = ⊥
IsOpen (Dual q terms) = ⊥
IsOpen (Undone q terms) = Unit {0}
IsOpen Point = ⊥

-- of a search that may divide so many nodes, and that knows a plan of this margin, or none
pub record KeepsBudget (setting : Setting) (budget : ℕ) (tree : List Node) (best : Option ℤ) : Type 0 where
  -- no more nodes are inner
  pub within : inner_count tree ≤ budget
  -- a leaf is left open only where all of them were spent, and only with a box of at least two points
  pub spent : (box : List Slot) (leaf : LeafKind) → IsLeafOver setting.case tree box leaf → IsOpen leaf
      → (inner_count tree ≡ budget) × (2 ≤ points_of box)
  -- any other leaf has no value above the margin of the plan
  pub closed : (box : List Slot) (leaf : LeafKind) → IsLeafOver setting.case tree box leaf
      → IsOpen leaf ⊎ IsAtMost (leaf_value_of setting box leaf) best
  -- a budget of all points of the root box but one leaves none open
  pub decided : points_of (root_box setting.case) ≤ budget + 1 → (box : List Slot) (leaf : LeafKind)
      → IsLeafOver setting.case tree box leaf → IsOpen leaf → ⊥
