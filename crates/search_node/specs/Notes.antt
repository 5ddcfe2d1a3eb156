-- Notes of nodes with the boxes of their nodes. Who writes a note does not keep the box: whoever speaks of notes over
-- their boxes says that there are boxes of which so and so holds.
use Rattle.std.specs.Prelude.{List, map}
use Rattle.slot_box.specs.declared.node.Node.{Node}
use Rattle.slot_box.specs.declared.node.Node.TheVariants.{Inner, Leaf}
use Rattle.slot_box.specs.declared.slot.Slot.{Slot}
use Rattle.slot_box.specs.declared.split.Split.{Split}
use Rattle.search_node.specs.declared.looked.NodeNote.{NodeNote}
use Rattle.work_chains.specs.Chains.{Outcome, divided, closed}
use Rattle.work_chains.specs.BoxChains.{BoxNote}

-- a note beside the box of its node
pub record NoteOver : Type 0 where
  pub note : NodeNote
  pub box : List Slot

-- the notes alone
abbrev pub notes_over : List NoteOver → List NodeNote
notes_over over = map (λ (each : NoteOver). each.note) over

-- what became of a node, for chains
abbrev pub outcome_of : Node → Outcome Split
outcome_of (Inner ticket split) = divided ticket split
outcome_of (Leaf leaf) = closed

-- the note with its box, for chains
abbrev pub box_note : NoteOver → BoxNote
box_note over = record { id = over.note.id; box = over.box; outcome = outcome_of over.note.node }
