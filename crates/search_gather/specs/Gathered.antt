-- The tree that notes make.
use Rattle.std.specs.Prelude.{◌≡◌, ℕ, ◌+◌, ◌*◌, ◌<◌, ◌≤◌, List, length, map, Contains, slice_get, Some}
use Rattle.limits.specs.declared.TheConstants.{MOST_NODES}
use Rattle.slot_box.specs.declared.node.Node.{Node}
use Rattle.slot_box.specs.declared.node.Node.TheVariants.{Inner, Leaf}
use Rattle.slot_box.specs.declared.slot.Slot.{Slot}
use Rattle.slot_box.specs.Nodes.{inner_count, AreTickets, HaveParents}
use Rattle.slot_box.specs.Trees.{HasBox}
use Rattle.search_node.specs.declared.looked.NodeNote.{NodeNote}
use Rattle.search_node.specs.Notes.{NoteOver, notes_over, box_note}
use Rattle.work_chains.specs.BoxChains.{AreSettledFrom}

-- the notes over these boxes are those of a whole search tree over the root box, with t nodes divided
pub record AreSettledOver (root : List Slot) (t : ℕ) (notes : List NodeNote) (over : List NoteOver) : Type 0 where
  pub notes_are : notes_over over ≡ notes
  pub settled : AreSettledFrom root (map box_note over) t

-- there are boxes over which the notes are those of a whole search tree, of no more divided nodes than a search may have
pub record AreOfTree (notes : List NodeNote) : Type 0 where
  pub root : List Slot
  pub t : ℕ
  pub over : List NoteOver
  pub few : t ≤ MOST_NODES
  pub settled : AreSettledOver root t notes over

-- ---- their tree

-- the same node, but that it may have another ticket
abbrev pub IsRenamed : Node → Node → Type 0
IsRenamed (Inner ticket split) node = (new : ℕ) × (node ≡ Inner new split)
IsRenamed (Leaf leaf) node = node ≡ Leaf leaf

-- the node of this id is that of the note, and has the note's box
pub record IsNodeOver (root : List Slot) (tree : List Node) (over : NoteOver) (id : ℕ) : Type 0 where
  pub node : Node
  pub there : slice_get tree id ≡ Some node
  pub same : IsRenamed over.note.node node
  pub has_box : HasBox root (slice_get tree) id over.box

-- a note whose node has this id, and this box
pub record IsFromNote (root : List Slot) (tree : List Node) (notes : List NoteOver) (id : ℕ) (box : List Slot)
    : Type 0 where
  pub note : NodeNote
  pub noted : Contains notes (record { note = note; box = box })
  pub is : IsNodeOver root tree (record { note = note; box = box }) id

-- the tree of notes over boxes
pub record IsGathered (root : List Slot) (t : ℕ) (notes : List NoteOver) (tree : List Node) : Type 0 where
  pub nodes : length tree ≡ 2 * t + 1
  pub inner : inner_count tree ≡ t
  pub tickets : AreTickets t tree
  pub parents : HaveParents tree
  -- the id in the tree of what had this id in the notes
  pub place : ℕ → ℕ
  -- different nodes have different places
  pub once : (id other : ℕ) → id < 2 * t + 1 → other < 2 * t + 1 → place id ≡ place other → id ≡ other
  -- each note is the node of its place, over its box
  pub placed : (over : NoteOver) → Contains notes over → IsNodeOver root tree over (place over.note.id)
  -- each node has a box
  pub every : (id : ℕ) → id < 2 * t + 1 → (box : List Slot) × HasBox root (slice_get tree) id box
  -- and whatever box a node has, it is that of a note over this very box
  pub noted : (id : ℕ) (box : List Slot) → HasBox root (slice_get tree) id box → IsFromNote root tree notes id box

-- the nodes are the tree of the notes, over whatever boxes these are those of a whole search tree
abbrev pub IsTreeOf : List NodeNote → List Node → Type 0
IsTreeOf notes tree =
    (root : List Slot) (t : ℕ) (over : List NoteOver) → AreSettledOver root t notes over
    → IsGathered root t over tree
