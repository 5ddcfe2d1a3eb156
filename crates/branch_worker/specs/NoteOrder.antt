-- What later notes of a worker owe to earlier ones.
use Rattle.std.specs.Prelude.{◌≡◌, List, [], ◌∷◌}
use Rattle.std.specs.List.{AllPairs}
use Rattle.number_laws.specs.Missing.{IsAtMost}
use Rattle.slot_box.specs.declared.node.Leaf.TheVariants.{Point}
use Rattle.slot_box.specs.declared.node.Node.{Node}
use Rattle.slot_box.specs.declared.node.Node.TheVariants.{Inner, Leaf}
use Rattle.search_node.specs.declared.looked.NodeNote.{NodeNote}

-- the node was divided
abbrev pub IsInnerNode : Node → Type 0
IsInnerNode (Inner ticket split) = Unit {0}
IsInnerNode (Leaf leaf) = ⊥

-- the node is a leaf of one point
abbrev pub IsPointNode : Node → Type 0
IsPointNode node = node ≡ Leaf Point

-- ---- what was seen

-- whoever made the first note had seen no more than at the second, where he also had seen the first one's margin, if
-- that is the margin of a point
pub record IsSeenBefore (first second : NodeNote) : Type 0 where
  pub seen : IsAtMost first.seen second.seen
  pub point : IsPointNode first.node → IsAtMost first.value second.seen

-- so it is with each note and all later ones
abbrev pub AreSeenInTurn : List NodeNote → Type 0
AreSeenInTurn notes = AllPairs IsSeenBefore notes

-- ---- values along a chain

-- the note of a left part, which comes next after that of the node that was divided, has no greater value
abbrev pub FallsTo : NodeNote → List NodeNote → Type 0
FallsTo first [] = Unit {0}
FallsTo first (next ∷ later) = IsInnerNode first.node → IsAtMost next.value first.value

-- so values fall along each chain
abbrev pub ValuesFall : List NodeNote → Type 0
ValuesFall [] = Unit {0}
ValuesFall (first ∷ later) = FallsTo first later × ValuesFall later
