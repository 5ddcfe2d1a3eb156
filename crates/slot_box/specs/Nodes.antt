-- A search tree as the list of its nodes, by their ids from 0 on.
use Rattle.std.specs.Prelude.{◌≡◌, ◌⊎◌, ℕ, ◌+◌, ◌*◌, ◌<◌, sum_by, List, length, slice_get, Some}
use Rattle.slot_box.specs.declared.node.Leaf.{Leaf as LeafKind}
use Rattle.slot_box.specs.declared.node.Node.{Node}
use Rattle.slot_box.specs.declared.node.Node.TheVariants.{Inner, Leaf}
use Rattle.slot_box.specs.declared.split.Split.{Split}

-- the node of this id is inner, with this ticket and this split
abbrev pub IsInner : List Node → ℕ → ℕ → Split → Type 0
IsInner tree id ticket split = slice_get tree id ≡ Some (Inner ticket split)

-- the node of this id is this leaf
abbrev pub IsLeaf : List Node → ℕ → LeafKind → Type 0
IsLeaf tree id leaf = slice_get tree id ≡ Some (Leaf leaf)

-- one for an inner node
abbrev pub inner_of : Node → ℕ
inner_of (Inner ticket split) = 1
inner_of (Leaf leaf) = 0

-- how many nodes are inner
abbrev pub inner_count : List Node → ℕ
inner_count tree = sum_by inner_of tree

-- each ticket is one of the first t, and no two nodes hold the same
pub record AreTickets (t : ℕ) (tree : List Node) : Type 0 where
  pub below : (id ticket : ℕ) (split : Split) → IsInner tree id ticket split → ticket < t
  pub once : (id other ticket : ℕ) (split another : Split) → IsInner tree id ticket split
      → IsInner tree other ticket another → id ≡ other

-- the node of this id holds the ticket that gives the other id its box, and stands before it
pub record IsParentOf (tree : List Node) (id holder : ℕ) : Type 0 where
  pub ticket : ℕ
  pub split : Split
  pub before : holder < id
  pub holds : IsInner tree holder ticket split
  pub child : (id ≡ 2 * ticket + 1) ⊎ (id ≡ 2 * ticket + 2)

-- each node but the first stands behind its parent
abbrev pub HaveParents : List Node → Type 0
HaveParents tree = (id : ℕ) → 0 < id → id < length tree → (holder : ℕ) × IsParentOf tree id holder
