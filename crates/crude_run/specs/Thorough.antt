-- How thorough a search is: where it divides, and how well it values what it leaves.
use Rattle.std.specs.Prelude.{ℕ, List, IfSome}
use Rattle.slot_box.specs.declared.node.Leaf.{Leaf as LeafKind}
use Rattle.slot_box.specs.declared.node.Leaf.TheVariants.{Dead}
use Rattle.slot_box.specs.declared.node.Node.{Node}
use Rattle.slot_box.specs.declared.slot.Slot.{Slot}
use Rattle.slot_box.specs.declared.split.Split.{Split}
use Rattle.slot_box.specs.Nodes.{IsInner, IsLeaf}
use Rattle.leaf_value.specs.Blocked.{IsBlocked}
use Rattle.leaf_value.specs.LeafValue.{leaf_value_of}
use Rattle.leaf_value.specs.Settings.{Setting}
use Rattle.leaf_value.specs.TreeValue.{HasCaseBox, IsLeafOver}
use Rattle.slot_box.specs.Even.{IsEvenSplit}
use Rattle.leaf_value.specs.PlainGuesses.{IsBelowPlainGuesses}

-- of each node of a search tree over its box
pub record IsThorough (setting : Setting) (tree : List Node) : Type 0 where
  -- a box is divided evenly
  pub even : (id ticket : ℕ) (box : List Slot) (split : Split) → HasCaseBox setting.case tree id box
      → IsInner tree id ticket split → IsEvenSplit box split
  -- a leaf is worth no more than any plain guess at its box says
  pub plain : (box : List Slot) (leaf : LeafKind) → IsLeafOver setting.case tree box leaf
      → IfSome (leaf_value_of setting box leaf) (IsBelowPlainGuesses setting box)
  -- a box whose first slots are fixed to operations that begin no form that is sought is never divided, nor left or
  -- closed in another way: its leaf is dead
  pub dead : (id at : ℕ) (box : List Slot) → HasCaseBox setting.case tree id box → IsBlocked setting.case box at
      → IsLeaf tree id (Dead at)
