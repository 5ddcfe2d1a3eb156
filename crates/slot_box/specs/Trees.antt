-- The search tree of boxes. A node is looked up by its id, as at its place in a list.
use Rattle.std.specs.Prelude.{◌≡◌, ℕ, ◌+◌, ◌*◌, Option, Some, None, List, [], ◌∷◌, ◌++◌}
use Rattle.slot_box.specs.declared.node.Leaf.{Leaf as LeafKind}
use Rattle.slot_box.specs.declared.node.Node.{Node}
use Rattle.slot_box.specs.declared.node.Node.TheVariants.{Inner, Leaf}
use Rattle.slot_box.specs.declared.slot.Slot.{Slot}
use Rattle.slot_box.specs.declared.split.Split.{Split}
use Rattle.slot_box.specs.Boxes.{IsPoint}
use Rattle.slot_box.specs.Entries.{Entry}
use Rattle.slot_box.specs.Splits.{IsLawfulSplit, left_of, right_of}

-- which box a node has: node 0 the root box; the node that holds ticket T gives the left part of its box
-- to node 2T + 1 and the right part to node 2T + 2. Nothing is said of the order of tickets
pub data HasBox (root : List Slot) (node_at : ℕ → Option Node) : ℕ → List Slot → Type 0 where
  root_box : HasBox root node_at 0 root
  left_part : {id ticket : ℕ} {split : Split} {box : List Slot} → HasBox root node_at id box
      → node_at id ≡ Some (Inner ticket split) → HasBox root node_at (2 * ticket + 1) (left_of box split)
  right_part : {id ticket : ℕ} {split : Split} {box : List Slot} → HasBox root node_at id box
      → node_at id ≡ Some (Inner ticket split) → HasBox root node_at (2 * ticket + 2) (right_of box split)

-- the node is there, and where it is inner it divides the box lawfully
abbrev pub IsNodeOf : List Slot → Option Node → Type 0
IsNodeOf box None = ⊥
IsNodeOf box (Some (Inner ticket split)) = IsLawfulSplit box split
IsNodeOf box (Some (Leaf leaf)) = Unit {0}

-- a search tree over the root box: each node that has a box is there and divides it lawfully, or is a leaf
abbrev pub IsSearchTree : List Slot → (ℕ → Option Node) → Type 0
IsSearchTree root node_at = (id : ℕ) (box : List Slot) → HasBox root node_at id box → IsNodeOf box (node_at id)

-- some leaf has a box with the point
pub record InLeaf (root : List Slot) (node_at : ℕ → Option Node) (point : List Entry) : Type 0 where
  pub id : ℕ
  pub box : List Slot
  pub kind : LeafKind
  pub has : HasBox root node_at id box
  pub node : node_at id ≡ Some (Leaf kind)
  pub there : IsPoint box point

-- the shape of a tree: its splits
pub data Tree : Type 0 where
  leaf : Tree
  fork : Split → Tree → Tree → Tree

-- how many splits
abbrev pub forks : Tree → ℕ
forks leaf = 0
forks (fork split left right) = forks left + forks right + 1

-- the boxes of its leaves, over a box
abbrev pub leaf_boxes : List Slot → Tree → List (List Slot)
leaf_boxes box leaf = box ∷ []
leaf_boxes box (fork split left right) =
    leaf_boxes (left_of box split) left ++ leaf_boxes (right_of box split) right

-- each split is lawful on the box that it divides
abbrev pub IsLawfulTree : List Slot → Tree → Type 0
IsLawfulTree box leaf = Unit {0}
IsLawfulTree box (fork split left right) =
    IsLawfulSplit box split × IsLawfulTree (left_of box split) left × IsLawfulTree (right_of box split) right

-- the nodes from this one on have this shape
abbrev pub IsTreeAt : (ℕ → Option Node) → ℕ → Tree → Type 0
IsTreeAt node_at id leaf = (kind : LeafKind) × (node_at id ≡ Some (Leaf kind))
IsTreeAt node_at id (fork split left right) =
    (ticket : ℕ) × (node_at id ≡ Some (Inner ticket split)) × IsTreeAt node_at (2 * ticket + 1) left
    × IsTreeAt node_at (2 * ticket + 2) right
