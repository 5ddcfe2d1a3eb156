-- What a worker does with a task, as plain lists: it follows the task down by its left parts, writes a note at each
-- node, and hands on the right parts. Of a task only the number of its node and its box count here. A box may be of any
-- kind, and so may a split, which has a left and a right part of a box.
use Rattle.std.specs.Prelude.{◌≡◌, ℕ, ◌+◌, ◌*◌, Option, Some, None, List, [], ◌∷◌, ◌⊎◌, Contains}
use Rattle.number_counts.specs.Counts.{one, times, HasEachBelow}

-- what became of a node: divided by a split under a ticket, or closed as a leaf
pub data Outcome (S : Type 0) : Type 0 where
  divided : ℕ → S → Outcome S
  closed : Outcome S

-- a note: the number of a node, its box, and what became of it
pub record Noted (B S : Type 0) : Type 0 where
  pub id : ℕ
  pub box : B
  pub outcome : Outcome S

module _ {B S : Type 0} where
  -- the note of a node that was divided
  abbrev pub inner_note : ℕ → B → ℕ → S → Noted B S
  inner_note id box ticket split = record { id = id; box = box; outcome = divided ticket split }

  -- the note of a leaf
  abbrev pub leaf_note : ℕ → B → Noted B S
  leaf_note id box = record { id = id; box = box; outcome = closed }

  -- the numbers of the nodes
  abbrev pub ids_of : List (Noted B S) → List ℕ
  ids_of [] = []
  ids_of (note ∷ notes) = note.id ∷ ids_of notes

  -- the tickets of the nodes that were divided
  abbrev pub tickets_of : List (Noted B S) → List ℕ
  tickets_of [] = []
  tickets_of (note ∷ notes) = and_ticket note.outcome (tickets_of notes)
    where
      and_ticket : Outcome S → List ℕ → List ℕ
      and_ticket (divided ticket split) tickets = ticket ∷ tickets
      and_ticket closed tickets = tickets

-- the numbers of the nodes of tasks
abbrev pub task_ids : {B : Type 0} → List (ℕ × B) → List ℕ
task_ids [] = []
task_ids (task ∷ tasks) = task.0 ∷ task_ids tasks

module _ {B S : Type 0} (Divides : B → S → Type 0) (left right : B → S → B) where
  -- the notes are the chains of the tasks taken, laid end to end. The chain of a task begins with the note of the task
  -- itself. At a leaf it ends. At a node that was divided under ticket T it goes on with the chain of the left part,
  -- which is node 2T + 1, and the right part, node 2T + 2, is handed on. What is in hand is where the last chain goes
  -- on; where nothing is in hand, all chains have ended
  pub data AreChains : List (ℕ × B) → List (Noted B S) → List (ℕ × B) → Option (ℕ × B) → Type 0 where
    no_task : AreChains [] [] [] None
    in_hand : (task : ℕ × B) → AreChains (task ∷ []) [] [] (Some task)
    closes : (id : ℕ) (box : B) {taken : List (ℕ × B)} {notes : List (Noted B S)} {handed : List (ℕ × B)}
        {hand : Option (ℕ × B)} → AreChains taken notes handed hand
        → AreChains ((id, box) ∷ taken) (leaf_note id box ∷ notes) handed hand
    divides : (id : ℕ) (box : B) (ticket : ℕ) (split : S) {taken : List (ℕ × B)} {notes : List (Noted B S)}
        {handed : List (ℕ × B)} {hand : Option (ℕ × B)} → Divides box split
        → AreChains ((2 * ticket + 1, left box split) ∷ taken) notes handed hand
        → AreChains ((id, box) ∷ taken) (inner_note id box ticket split ∷ notes)
        ((2 * ticket + 2, right box split) ∷ handed) hand

module _ {B S : Type 0} (left right : B → S → B) (root : B) (notes : List (Noted B S)) where
  -- a node that is reached from the root by the notes, and the box that the splits on the way give it: from the holder
  -- of a ticket T the way goes on to the nodes 2T + 1 and 2T + 2
  pub data Reaches : ℕ → B → Type 0 where
    at_root : Reaches 0 root
    at_left : (id : ℕ) (box : B) (ticket : ℕ) (split : S) → Reaches id box
        → Contains notes (inner_note id box ticket split) → Reaches (2 * ticket + 1) (left box split)
    at_right : (id : ℕ) (box : B) (ticket : ℕ) (split : S) → Reaches id box
        → Contains notes (inner_note id box ticket split) → Reaches (2 * ticket + 2) (right box split)

  -- notes of a whole search tree with t nodes divided: its nodes are those from 0 to 2t, its tickets those below t,
  -- each once, and each node is reached from the root with the box that it has in its note
  pub record AreSettled (t : ℕ) : Type 0 where
    pub ids : HasEachBelow (2 * t + 1) (ids_of notes)
    pub tickets : HasEachBelow t (tickets_of notes)
    pub reached : (note : Noted B S) → Contains notes note → Reaches note.id note.box

-- what was taken is the root's task and what was handed on: each number of a node was taken as often as it was handed
-- on, the root's once more, and no task was taken but these
pub record TakesAllHanded {B : Type 0} (root : B) (taken handed : List (ℕ × B)) : Type 0 where
  pub counts : (x : ℕ) → times x (task_ids taken) ≡ one x 0 + times x (task_ids handed)
  pub tasks : (task : ℕ × B) → Contains taken task → (task ≡ (0, root)) ⊎ Contains handed task
