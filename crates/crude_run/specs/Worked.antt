-- How the workers came to their tree.
use Rattle.std.specs.Prelude.{◌≡◌, ℕ, ℤ, All, List, [], ◌∷◌, Option, Some}
use Rattle.number_laws.specs.Missing.{IsAtMost}
use Rattle.plant_model.specs.declared.parts.Parts.{Parts}
use Rattle.greedy_plan.specs.Greedy.{greedy_of, all_operations}
use Rattle.replay_core.specs.declared.timed.Timed.{Timed}
use Rattle.replay_core.specs.Legal.{IsLegal}
use Rattle.replay_core.specs.Margin.{margin_of}
use Rattle.slot_box.specs.declared.node.Node.{Node}
use Rattle.slot_box.specs.Tasks.{TaskParts, task_of}
use Rattle.slot_forms.specs.Cases.{plain, root_box}
use Rattle.leaf_value.specs.Settings.{plain_setting}
use Rattle.search_node.specs.Notes.{NoteOver, notes_over}
use Rattle.branch_worker.specs.NoteBoxes.{IsTrueNote}
use Rattle.branch_worker.specs.NoteOrder.{AreSeenInTurn, ValuesFall}
use Rattle.search_gather.specs.Gathered.{IsGathered}
use Rattle.search_team.specs.Teamwork.{IsInOrder, all_over}

-- the margin of the plan was seen by then
abbrev pub KnewMargin : List Timed → Parts → NoteOver → Type 0
KnewMargin plan parts each = IsAtMost (Some (margin_of parts plan)) each.note.seen

-- the task with which a search begins: the root box, with nothing to start from
abbrev pub root_task : Parts → ℕ → TaskParts
root_task parts n = task_of 0 (root_box (plain parts n)) 1 []

-- one worker's notes are those of its own work on the root's task, in the order of that work, and nobody else noted
-- anything
abbrev pub WorkedAlone : Parts → ℕ → List (List NoteOver) → Type 0
WorkedAlone parts n lists = (over : List NoteOver) × (lists ≡ over ∷ []) × IsInOrder (root_task parts n) over

-- each worker noted the nodes that it examined, each with its box, in the order of its own work. The tree is that of
-- the notes of all of them
pub record IsWorkedOff (parts : Parts) (n workers t : ℕ) (tree : List Node) (margin : Option ℤ) : Type 0 where
  pub lists : List (List NoteOver)
  pub gathered : IsGathered (root_box (plain parts n)) t (all_over lists) tree
  -- each note is true of its box; so the value of a box that was divided beats the best margin that its worker had seen
  pub true_notes : All (IsTrueNote (plain_setting parts n)) (all_over lists)
  -- what a worker saw never falls, and the margin of a point is seen at each of its later notes
  pub in_turn : All (λ (over : List NoteOver). AreSeenInTurn (notes_over over)) lists
  -- a left part is worth no more than the whole
  pub falling : All (λ (over : List NoteOver). ValuesFall (notes_over over)) lists
  -- and nothing is seen that the plan which is given does not earn
  pub earned : All (λ (each : NoteOver). IsAtMost each.note.seen margin) (all_over lists)
  -- the greedy plan of all operations, where it is legal, was known to each worker from its first note on
  pub first : IsLegal parts (greedy_of parts n (all_operations parts))
      → All (KnewMargin (greedy_of parts n (all_operations parts)) parts) (all_over lists)
  -- a single worker went down from the root by the left parts and kept the right ones; where that ended it took the part
  -- that it had kept first
  pub alone : workers ≡ 1 → WorkedAlone parts n lists
