-- What the workers of a search give back together.
use Rattle.std.specs.Prelude.{◌≡◌, ℕ, ◌+◌, ◌≤◌, All, List, [], ◌∷◌, ◌++◌, length, map, Option, None, IfSome}
use Rattle.limits.specs.declared.TheConstants.{MOST_NODES, MOST_SLOTS, MOST_WORKERS}
use Rattle.number_counts.specs.Counts.{HasEachBelow}
use Rattle.number_laws.specs.Missing.{greater}
use Rattle.plan_build.specs.Built.{IsPlanned, found_margin}
use Rattle.plant_model.specs.declared.parts.Parts.{Parts}
use Rattle.replay_core.specs.declared.planned.Planned.{Planned}
use Rattle.slot_box.specs.declared.cut.NamedCut.{NamedCut}
use Rattle.slot_box.specs.Tasks.{TaskParts}
use Rattle.leaf_value.specs.Settings.{plain_setting}
use Rattle.search_board.specs.Seats.{SeatView}
use Rattle.search_node.specs.declared.looked.NodeNote.{NodeNote}
use Rattle.search_node.specs.Notes.{NoteOver, box_note, notes_over}
use Rattle.work_chains.specs.BoxChains.{AreBoxChains, AreSettledFrom, BoxTask}
use Rattle.branch_worker.specs.NoteBoxes.{IsTrueNote}
use Rattle.branch_worker.specs.NoteOrder.{AreSeenInTurn, ValuesFall}
use Rattle.branch_worker.specs.Work.{IsLeftWell, IsSeenBetween, box_task}
use Rattle.overlap_graph.specs.Cliques.{cliques_of}
use Rattle.overlap_graph.specs.Independence.{independence_of}
use Rattle.search_team.specs.declared.team.Scene.{Scene}
use Rattle.search_team.specs.declared.team.Together.{Together}

-- the cliques and the automaton are those of the plant; slots and tickets are within their limits
pub record IsScene (scene : Scene) : Type 0 where
  pub cliques : scene.cliques.now ≡ cliques_of scene.plant.now
  pub automaton : scene.automaton.now ≡ independence_of scene.plant.now
  pub few_slots : scene.n ≤ MOST_SLOTS
  pub few_tickets : scene.board.now.budget ≤ MOST_NODES

-- the notes of all workers over their boxes, worker by worker
abbrev pub all_over : List (List NoteOver) → List NoteOver
all_over [] = []
all_over (over ∷ lists) = over ++ all_over lists

-- the notes alone, a list for each worker
abbrev pub lists_over : List (List NoteOver) → List (List NodeNote)
lists_over lists = map notes_over lists

-- no worker has a cut
abbrev pub HaveNoCuts : List (List NamedCut) → Type 0
HaveNoCuts cuts = All (λ (own : List NamedCut). own ≡ []) cuts

-- the work on the root's task, told by the notes of all workers, each list in the order of one worker's work. The seat
-- is told as it was before, and as it is with all workers' seats joined into it
pub record IsTeamwork (parts : Parts) (n : ℕ) (root : TaskParts) (before after : SeatView) (lists : List (List NoteOver))
    (found : Option Planned) : Type 0 where
  -- with tickets from 0 on the notes are those of a whole search tree
  pub settles : (t : ℕ) → HasEachBelow t after.tickets → AreSettledFrom root.box (map box_note (all_over lists)) t
  pub true_notes : All (IsTrueNote (plain_setting parts n)) (all_over lists)
  pub in_turn : All (λ (over : List NoteOver). AreSeenInTurn (notes_over over)) lists
  pub falling : All (λ (over : List NoteOver). ValuesFall (notes_over over)) lists
  pub left : All (IsLeftWell after) (notes_over (all_over lists))
  pub seen : All (IsSeenBetween before.seen after.seen) (notes_over (all_over lists))
  -- the plan is the best that was found, and earns the most that was offered
  pub plan : IfSome found (IsPlanned parts n)
  pub offered : after.offer ≡ greater before.offer (found_margin found)
  -- no seat is lost
  pub board : after.board ≡ before.board
  pub seats : after.stands + after.may ≡ before.stands + before.may

-- one worker's work on the root's task, in the order of its work: from the root it went down by the left parts and kept
-- the right ones; where that ended it took the part that it had kept first
pub record IsInOrder (root : TaskParts) (over : List NoteOver) : Type 0 where
  pub kept : List BoxTask
  pub chains : AreBoxChains (box_task root ∷ kept) (map box_note over) kept None

-- what one worker gave back tells of such work
pub record IsAlone (parts : Parts) (n : ℕ) (root : TaskParts) (before : SeatView) (together : Together) : Type 0 where
  pub over : List NoteOver
  pub order : IsInOrder root over
  pub work : IsTeamwork parts n root before together.seat (over ∷ []) together.found
  pub notes : together.notes ≡ lists_over (over ∷ [])
  pub cuts : together.cuts ≡ [] ∷ []

-- what several workers gave back tells of such work
pub record IsTogether (parts : Parts) (n : ℕ) (root : TaskParts) (before : SeatView) (together : Together) : Type 0 where
  pub lists : List (List NoteOver)
  pub work : IsTeamwork parts n root before together.seat lists together.found
  pub notes : together.notes ≡ lists_over lists
  pub cuts : HaveNoCuts together.cuts
  pub each : length together.cuts ≡ length together.notes
  pub few : length together.notes ≤ MOST_WORKERS + 1
