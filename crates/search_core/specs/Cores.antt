-- What a core is made of, and how a reader finds his way in it.
use Rattle.std.specs.Prelude.{ℕ, ℤ, ◌+◌, ◌-◌, ◌*◌, min, map, ◌==◌, false, if◌then◌else◌, Option, Some, None, List, [], ◌∷◌, ◌++◌, replicate, slice_index_or, slice_set}
use Rattle.std.specs.List.{flat_map}
use Rattle.std.specs.Option.{option_to_list}
use Rattle.work_chains.specs.Chains.{Outcome, divided, closed}
use Rattle.work_chains.specs.NodeChains.{NodeTask, NodeNote}
use Rattle.search_core.specs.declared.note.CoreNote.{CoreNote}
use Rattle.search_core.specs.declared.worker.Worker.{Worker}

-- the state of a search: its workers by their numbers from 0, how often a ticket was asked for, the budget, the best
-- margin that was offered, and the notes in the order in which they were written
pub record Core : Type 0 where
  pub workers : List Worker
  pub counter : ℕ
  pub budget : ℕ
  pub best : Option ℤ
  pub notes : List CoreNote

-- the core of these
abbrev pub core_of : List Worker → ℕ → ℕ → Option ℤ → List CoreNote → Core
core_of workers counter budget best notes =
    record { workers = workers; counter = counter; budget = budget; best = best; notes = notes }

-- a worker that has done nothing, with this in hand
abbrev pub fresh_worker : Option ℕ → Worker
fresh_worker hand = record {
  hand = hand;
  ticket = None;
  spent = false;
  kept = [];
  deck = [];
  offered = None;
  seen = None;
  cuts = 0;
}

-- the worker of this number
abbrev pub worker_at : Core → ℕ → Worker
worker_at core w = slice_index_or core.workers w (fresh_worker None)

-- the core with another state of this worker
abbrev pub with_worker : Core → ℕ → Worker → Core
with_worker core w worker = record core { workers = slice_set core.workers w worker }

-- with so many workers and this budget, before any event: worker 0 has node 0 in hand
abbrev pub first_core : ℕ → ℕ → Core
first_core workers budget = record {
  workers = fresh_worker (Some 0) ∷ replicate (workers - 1) (fresh_worker None);
  counter = 0;
  budget = budget;
  best = None;
  notes = [];
}

-- how many tickets were given
abbrev pub tickets_given : Core → ℕ
tickets_given core = min core.counter core.budget

-- the tickets that workers hold
abbrev pub held_tickets : List Worker → List ℕ
held_tickets workers = flat_map (λ worker. option_to_list worker.ticket) workers

-- the tickets in the notes of inner nodes
abbrev pub noted_tickets : List CoreNote → List ℕ
noted_tickets notes = flat_map (λ note. option_to_list note.ticket) notes

-- the nodes that a worker has in its hand, its kept list or its deck
abbrev pub nodes_of : Worker → List ℕ
nodes_of worker = option_to_list worker.hand ++ worker.kept ++ worker.deck

-- the nodes that wait in hands, kept lists and decks
abbrev pub waiting_nodes : List Worker → List ℕ
waiting_nodes workers = flat_map nodes_of workers

-- the nodes that have a note
abbrev pub noted_nodes : List CoreNote → List ℕ
noted_nodes notes = map (λ note. note.id) notes

-- the nodes that the parts under these tickets are
abbrev pub part_nodes : List ℕ → List ℕ
part_nodes [] = []
part_nodes (ticket ∷ tickets) = (2 * ticket + 1) ∷ (2 * ticket + 2) ∷ part_nodes tickets

-- what became of a node, by its ticket
abbrev pub outcome_of : Option ℕ → Outcome (Unit {0})
outcome_of (Some ticket) = divided ticket tt
outcome_of None = closed

-- a note, in the words of chains
abbrev pub node_note : CoreNote → NodeNote
node_note note = record { id = note.id; box = tt; outcome = outcome_of note.ticket }

-- all notes, in these words
abbrev pub node_notes : List CoreNote → List NodeNote
node_notes notes = map node_note notes

-- the notes of one worker
abbrev pub notes_by : ℕ → List CoreNote → List NodeNote
notes_by w [] = []
notes_by w (note ∷ notes) = if note.worker == w then node_note note ∷ notes_by w notes else notes_by w notes

-- what a worker has in hand, in these words
abbrev pub task_in : Option ℕ → Option NodeTask
task_in None = None
task_in (Some id) = Some (id, tt)
