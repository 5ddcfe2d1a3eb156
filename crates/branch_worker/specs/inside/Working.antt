-- A worker in the middle of its work.
use Rattle.std.specs.Prelude.{◌≡◌, ◌⊎◌, ℕ, ◌+◌, ◌-◌, ◌*◌, ◌<◌, ◌≤◌, ℤ, All, List, [], ◌∷◌, ◌++◌, map, length, Option, Some, None, option_map, IsPermutation, IsSome}
use Rattle.number_laws.specs.Missing.{IsAtMost}
use Rattle.plant_model.specs.declared.parts.Parts.{Parts}
use Rattle.slot_box.specs.declared.node.Leaf.{Leaf}
use Rattle.slot_box.specs.declared.node.Leaf.TheVariants.{Dual, Undone}
use Rattle.slot_box.specs.declared.node.Node.{Node}
use Rattle.slot_box.specs.declared.split.Split.{Split}
use Rattle.slot_box.specs.Boxes.{points_of}
use Rattle.slot_box.specs.Splits.{IsLawfulSplit}
use Rattle.slot_box.specs.Tasks.{TaskParts}
use Rattle.leaf_value.specs.Budget.{IsOpen}
use Rattle.leaf_value.specs.Settings.{Setting, plain_setting}
use Rattle.search_board.specs.Seats.{SeatView}
use Rattle.search_node.specs.declared.looked.NodeNote.{NodeNote}
use Rattle.slot_box.specs.Even.{IsEvenSplit}
use Rattle.search_node.specs.Laws.{IsUnblocked}
use Rattle.search_node.specs.Looks.{IsLeafFor}
use Rattle.search_node.specs.Values.{warm_value}
use Rattle.work_chains.specs.Chains.{tickets_of}
use Rattle.work_chains.specs.BoxChains.{BoxTask, AreBoxChains}
use Rattle.branch_worker.specs.declared.site.Site.{Site}
use Rattle.branch_worker.specs.declared.worker.Worker.{Worker}
use Rattle.search_node.specs.Notes.{NoteOver, notes_over, box_note}
use Rattle.branch_worker.specs.NoteBoxes.{IsTrueNote}
use Rattle.branch_worker.specs.Sites.{ArePassesOfOthers}
use Rattle.branch_worker.specs.NoteOrder.{IsInnerNode, IsPointNode, AreSeenInTurn, ValuesFall}
use Rattle.task_deck.specs.Accounts.{all_stolen}
use Rattle.branch_worker.specs.Work.{AreSamePasses, IsBestFound, IsLeftWell, IsSameOwner, IsSameSeat, box_task}
use Rattle.task_deck.specs.declared.ends.DoorPass.{DoorPass}
use Rattle.task_deck.specs.declared.ends.Owner.{Owner}
use Rattle.task_deck.specs.Decks.{owner_view}

-- ---- between two notes

-- the tickets of the notes, and that of the node in hand, if it has one already
abbrev pub tickets_with : List ℕ → Option ℕ → List ℕ
tickets_with tickets None = tickets
tickets_with tickets (Some ticket) = tickets ++ ticket ∷ []

-- the entries with which the task in hand begins give its box no greater value
abbrev pub StartsBelow : Setting → Option TaskParts → Option ℤ → Type 0
StartsBelow setting None value = ⊥
StartsBelow setting (Some task) value = IsAtMost (Some (warm_value setting task)) value

-- where the last node was divided, the task in hand goes on with its entries
abbrev pub GoesOn : Setting → List NodeNote → Option TaskParts → Type 0
GoesOn setting notes hand =
    (before : List NodeNote) (last : NodeNote) → notes ≡ before ++ last ∷ [] → IsInnerNode last.node
    → StartsBelow setting hand last.value

-- the seat has seen what was seen at the note, and offered the margin of its point, if it is that of one
pub record IsKnownTo (seat : SeatView) (note : NodeNote) : Type 0 where
  pub seen : IsAtMost note.seen seat.seen
  pub point : IsPointNode note.node → IsAtMost note.value seat.offer

-- the seat has seen both
pub record IsSeenBy (seat : SeatView) (note : NodeNote) : Type 0 where
  pub seen : IsAtMost note.seen seat.seen
  pub point : IsPointNode note.node → IsAtMost note.value seat.seen

-- at the note as much was seen
abbrev pub SawAtLeast : Option ℤ → NodeNote → Type 0
SawAtLeast before note = IsAtMost before note.seen

-- with what a worker began: the plant and the number of slots, its seat, the tasks that it was given, its own deck,
-- if it works among others, and its passes
pub record Start : Type 0 where
  pub parts : Parts
  pub slots : ℕ
  pub seat : SeatView
  pub first : List TaskParts
  pub owner : Option Owner
  pub passes : List DoorPass

-- a worker that does nothing yet
abbrev pub start_of : Parts → ℕ → Worker → Start
start_of parts slots worker = record {
  parts = parts;
  slots = slots;
  seat = worker.seat;
  first = worker.waiting;
  owner = worker.owner;
  passes = worker.passes;
}

-- the setting of its leaves
abbrev pub setting_of : Start → Setting
setting_of start = plain_setting start.parts start.slots

-- ---- tasks that come and go

-- what the owner pushed and popped; a worker that works alone has no deck
abbrev pub pushed_of : Option Owner → List TaskParts
pushed_of None = []
pushed_of (Some owner) = (owner_view owner).pushed

abbrev pub popped_of : Option Owner → List TaskParts
popped_of None = []
popped_of (Some owner) = (owner_view owner).popped

-- the tasks that have come to the worker so far
abbrev pub came_to : Start → Worker → List TaskParts
came_to start worker = start.first ++ popped_of worker.owner ++ all_stolen worker.passes

-- both lists have the same tasks, each as often: in the same order with a worker that works alone, in any order with
-- one that has a deck
abbrev pub HaveSame : Option Owner → List BoxTask → List BoxTask → Type 0
HaveSame None xs ys = xs ≡ ys
HaveSame (Some owner) xs ys = IsPermutation xs ys

-- the worker has the same deck still, or still none
abbrev pub HasSameOwner : Option Owner → Option Owner → Type 0
HasSameOwner None None = Unit {0}
HasSameOwner None (Some new) = ⊥
HasSameOwner (Some old) None = ⊥
HasSameOwner (Some old) (Some new) = IsSameOwner old new

-- the tasks of a worker between any two steps, over the notes so far: which it took and which its chains handed on.
-- It took what came to it, and of what was handed on it pushed some to its deck and kept the others, of which some may
-- still wait
pub record HasTasks (start : Start) (worker : Worker) (over : List NoteOver) (hand : Option TaskParts) : Type 0 where
  pub taken : List BoxTask
  pub handed : List BoxTask
  pub kept : List BoxTask
  pub chains : AreBoxChains taken (map box_note over) handed (option_map box_task hand)
  pub came : HaveSame start.owner (taken ++ map box_task worker.waiting) (map box_task (came_to start worker) ++ kept)
  pub went : HaveSame start.owner handed (map box_task (pushed_of worker.owner) ++ kept)
  pub owner : HasSameOwner start.owner worker.owner
  pub passes : AreSamePasses start.passes worker.passes

-- what a worker keeps between any two steps, with the task in hand and the ticket for it
pub record IsWorking (start : Start) (worker : Worker) (hand : Option TaskParts) (held : Option ℕ) : Type 0 where
  pub over : List NoteOver
  pub notes : worker.notes ≡ notes_over over
  pub tasks : HasTasks start worker over hand
  pub tickets : worker.seat.tickets ≡ tickets_with (tickets_of (map box_note over)) held
  pub drawn : worker.drawn ≡ length (tickets_of (map box_note over))
  pub seat : IsSameSeat start.seat worker.seat
  pub true_notes : All (IsTrueNote (setting_of start)) over
  pub in_turn : AreSeenInTurn worker.notes
  pub falling : ValuesFall worker.notes
  pub goes_on : GoesOn (setting_of start) worker.notes hand
  pub left : All (IsLeftWell worker.seat) worker.notes
  pub known : All (IsKnownTo worker.seat) worker.notes
  pub since : All (SawAtLeast start.seat.seen) worker.notes
  pub looks : length worker.notes ≤ worker.seat.looks
  pub found : IsBestFound start.parts start.slots worker.seat.offer worker.found
  pub cuts : worker.cuts ≡ []

-- a right part was handed on: it was pushed to the worker's own deck, or else it waits behind those that are kept
pub record HandsOn (right : TaskParts) (old new : Worker) : Type 0 where
  pub owner : HasSameOwner old.owner new.owner
  pub popped : popped_of new.owner ≡ popped_of old.owner
  pub went : ((new.waiting ≡ old.waiting) × (pushed_of new.owner ≡ pushed_of old.owner ++ right ∷ []))
      ⊎ ((new.waiting ≡ old.waiting ++ right ∷ []) × (pushed_of new.owner ≡ pushed_of old.owner))

-- since the last note the worker has looked at the board
pub record HasLooked (worker : Worker) : Type 0 where
  pub looks : length worker.notes + 1 ≤ worker.seat.looks
  pub seen : All (IsSeenBy worker.seat) worker.notes

-- the worker began at this site
pub record BeganAt (site : Site) (start : Start) : Type 0 where
  pub parts : start.parts ≡ site.plant.now
  pub slots : start.slots ≡ site.n
  pub board : start.seat.board ≡ site.board.now

-- among others, under this number
pub record BeganAmong (site : Site) (number : ℕ) (start : Start) : Type 0 where
  pub at : BeganAt site start
  pub deck : IsSome start.owner
  pub door : number < length site.doors.now
  pub passes : ArePassesOfOthers number site.doors.now start.passes

-- ---- the box in hand

-- the box in hand may be divided by the split; the leaf, with this value, is what it is worth if it is left open
pub record IsUndecided (setting : Setting) (task : TaskParts) (value : ℤ) (leaf : Leaf) (split : Split) : Type 0 where
  pub several : 2 ≤ points_of task.box
  pub leaf_for : IsLeafFor setting task leaf (Some value)
  pub open_leaf : IsOpen leaf
  pub lawful : IsLawfulSplit task.box split
  pub even : IsEvenSplit task.box split
  pub alive : IsUnblocked setting task.box

-- the note of the task's node, with its box
abbrev pub note_over : TaskParts → Node → Option ℤ → Option ℤ → NoteOver
note_over task node value seen =
    record { note = record { id = task.id; node = node; value = value; seen = seen }; box = task.box }

-- the value is no greater than what the task's entries give its box
abbrev pub IsBelowWarm : Setting → TaskParts → Option ℤ → Type 0
IsBelowWarm setting task value = IsAtMost value (Some (warm_value setting task))

-- ---- the end

-- one for a task in hand
abbrev pub hand_count : Option TaskParts → ℕ
hand_count None = 0
hand_count (Some task) = 1

-- what is still to be done at most: two for each ticket that is left, and one for each task
abbrev pub work_left : ℕ → Worker → Option TaskParts → ℕ
work_left budget worker hand = 2 * (budget - worker.drawn) + length worker.waiting + hand_count hand

-- ---- leaves

-- the leaf with the same entries that is not left open
abbrev pub closed_leaf : Leaf → Leaf
closed_leaf (Undone q terms) = Dual q terms
closed_leaf leaf = leaf
