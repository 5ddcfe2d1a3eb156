-- What a worker owes in the end.
use Rattle.std.specs.Prelude.{◌≡◌, ◌⊎◌, ℕ, ◌<◌, ◌≤◌, ℤ, All, List, [], ◌∷◌, ◌++◌, map, length, Option, Some, None, IfSome, IsPermutation, slice_index_or}
use Rattle.number_laws.specs.Missing.{greater, IsAtMost}
use Rattle.plan_build.specs.Built.{IsPlanned, found_margin}
use Rattle.plant_model.specs.declared.parts.Parts.{Parts}
use Rattle.replay_core.specs.declared.planned.Planned.{Planned}
use Rattle.slot_box.specs.declared.node.Leaf.{Leaf as LeafKind}
use Rattle.slot_box.specs.declared.node.Node.{Node}
use Rattle.slot_box.specs.declared.node.Node.TheVariants.{Inner, Leaf}
use Rattle.slot_box.specs.Tasks.{TaskParts}
use Rattle.leaf_value.specs.Budget.{IsOpen}
use Rattle.leaf_value.specs.Settings.{plain_setting}
use Rattle.search_board.specs.Seats.{SeatView}
use Rattle.search_node.specs.declared.looked.NodeNote.{NodeNote}
use Rattle.work_chains.specs.Chains.{tickets_of}
use Rattle.work_chains.specs.BoxChains.{BoxTask, AreBoxChains}
use Rattle.branch_worker.specs.declared.site.Alone.{Alone}
use Rattle.branch_worker.specs.declared.site.AloneDone.{AloneDone}
use Rattle.branch_worker.specs.declared.site.Me.{Me}
use Rattle.branch_worker.specs.declared.site.Done.{Done}
use Rattle.task_deck.specs.declared.ends.DoorPass.{DoorPass}
use Rattle.task_deck.specs.declared.ends.Owner.{Owner}
use Rattle.task_deck.specs.Accounts.{all_stolen}
use Rattle.task_deck.specs.Decks.{DeckId, IsPassOfDeck, deck_of, owner_view, pass_view}
use Rattle.search_node.specs.Notes.{NoteOver, notes_over, box_note}
use Rattle.branch_worker.specs.NoteBoxes.{IsTrueNote}
use Rattle.branch_worker.specs.NoteOrder.{AreSeenInTurn, ValuesFall}

-- ---- the tasks that were taken

-- a task, for chains
abbrev pub box_task : TaskParts → BoxTask
box_task task = (task.id, task.box)

-- the notes are the chains of the tasks that were taken: those that the worker was given, and then all right parts,
-- which it kept, in the order in which they were kept. Each ticket that the seat drew is that of a node that was
-- divided, in the order of the notes
pub record TakesAll (first : List TaskParts) (tickets : List ℕ) (over : List NoteOver) : Type 0 where
  pub kept : List BoxTask
  pub chains : AreBoxChains (map box_task first ++ kept) (map box_note over) kept None
  pub used : tickets ≡ tickets_of (map box_note over)

-- the tasks with which a worker among others begins: one or none
abbrev pub first_tasks : Option TaskParts → List TaskParts
first_tasks None = []
first_tasks (Some task) = task ∷ []

-- the notes are the chains of the tasks that a worker among others took, each task once, in whatever order: its first
-- one, those that it popped, those that it stole and those that it kept. What these chains handed on, the right parts,
-- is what it pushed and what it kept. Each ticket that the seat drew is that of a node that was divided, in the order
-- of the notes
pub record TakesAllThatCame (me : Me) (done : Done) (over : List NoteOver) : Type 0 where
  pub taken : List BoxTask
  pub handed : List BoxTask
  pub kept : List BoxTask
  pub chains : AreBoxChains taken (map box_note over) handed None
  pub came : IsPermutation taken
      (map box_task (first_tasks me.first ++ (owner_view done.owner).popped ++ all_stolen done.passes) ++ kept)
  pub went : IsPermutation handed (map box_task (owner_view done.owner).pushed ++ kept)
  pub used : done.seat.tickets ≡ tickets_of (map box_note over)

-- ---- how leaves are left

-- a leaf is left open only by a seat that was told that no ticket is left; any other leaf has no value, or none above
-- what the seat has offered or seen
pub record IsLeftOpenOrBeaten (seat : SeatView) (leaf : LeafKind) (value : Option ℤ) : Type 0 where
  pub told : IsOpen leaf → (number : ℕ) × (seat.told ≡ Some number)
  pub beaten : IsOpen leaf ⊎ IsAtMost value (greater seat.offer seat.seen)

-- of a note, where it is that of a leaf
abbrev pub IsLeftWell : SeatView → NodeNote → Type 0
IsLeftWell seat note = of_node note.node
  where
    of_node : Node → Type 0
    of_node (Inner ticket split) = Unit {0}
    of_node (Leaf leaf) = IsLeftOpenOrBeaten seat leaf note.value

-- ---- plans

-- the plan is legal, and earns the most that the seat has offered; there is none just where it has offered nothing
pub record IsBestFound (parts : Parts) (n : ℕ) (offer : Option ℤ) (found : Option Planned) : Type 0 where
  pub plan : IfSome found (IsPlanned parts n)
  pub offered : offer ≡ found_margin found

-- ---- all of it

-- the seat is still the same one at the board, and has seen no less
pub record IsSameSeat (old new : SeatView) : Type 0 where
  pub board : new.board ≡ old.board
  pub stands : new.stands ≡ old.stands
  pub may : new.may ≡ old.may
  pub seen : IsAtMost old.seen new.seen

-- at the note as much was seen as before the work began, and no more than at its end
pub record IsSeenBetween (before after : Option ℤ) (note : NodeNote) : Type 0 where
  pub since : IsAtMost before note.seen
  pub still : IsAtMost note.seen after

-- what every worker owes for its notes, for the plain case of n slots, with a box for each of them: all that is said
-- above of notes is so. The seat is told as it was before the work and as it is after it
pub record IsWorkNoted (parts : Parts) (n : ℕ) (before after : SeatView) (over : List NoteOver) (notes : List NodeNote)
    (found : Option Planned) : Type 0 where
  pub seat : IsSameSeat before after
  pub notes_are : notes ≡ notes_over over
  pub true_notes : All (IsTrueNote (plain_setting parts n)) over
  pub in_turn : AreSeenInTurn notes
  pub falling : ValuesFall notes
  pub left : All (IsLeftWell after) notes
  pub looks : length notes ≤ after.looks
  pub seen : All (IsSeenBetween before.seen after.seen) notes
  pub best : IsBestFound parts n after.offer found

-- what a worker gives back that works alone
pub record IsAloneDone (parts : Parts) (n : ℕ) (me : Alone) (done : AloneDone) : Type 0 where
  pub number : done.number ≡ me.number
  pub over : List NoteOver
  pub work : IsWorkNoted parts n me.seat done.seat over done.notes done.found
  pub taken : TakesAll me.first done.seat.tickets over
  -- a search takes no cuts so far, so none is named
  pub cuts : done.cuts ≡ []

-- ---- decks and passes

-- the owner is still that of its deck, and made no pass more
pub record IsSameOwner (old new : Owner) : Type 0 where
  pub deck : deck_of new ≡ deck_of old
  pub passes : (owner_view new).passes ≡ (owner_view old).passes

-- the pass is still one of its deck, under its number
pub record IsSamePass (old new : DoorPass) : Type 0 where
  pub deck : (deck : DeckId) → IsPassOfDeck deck old → IsPassOfDeck deck new
  pub number : (pass_view new).number ≡ (pass_view old).number

-- so it is with each pass of a list, at its place
pub record AreSamePasses (old new : List DoorPass) : Type 0 where
  pub many : length new ≡ length old
  pub each : (i : ℕ) (pass : DoorPass) → i < length old →
      IsSamePass (slice_index_or old i pass) (slice_index_or new i pass)

-- what a worker gives back that works among others. Nothing is in its hand or on its own list any more
pub record IsDone (parts : Parts) (n : ℕ) (me : Me) (done : Done) : Type 0 where
  pub number : done.number ≡ me.number
  pub owner : IsSameOwner me.owner done.owner
  pub passes : AreSamePasses me.passes done.passes
  pub over : List NoteOver
  pub work : IsWorkNoted parts n me.seat done.seat over done.notes done.found
  pub taken : TakesAllThatCame me done over
  -- a search takes no cuts so far, so none is named
  pub cuts : done.cuts ≡ []
  pub tokens : done.tokens ≡ []
