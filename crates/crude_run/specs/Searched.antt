-- What a search begins with, and what it has found in the end. No promise of the program is made of these words.
use Rattle.std.specs.Prelude.{◌≡◌, ℕ, ◌+◌, ◌-◌, ◌*◌, ◌≤◌, ℤ, All, Contains, List, [], ◌∷◌, ◌++◌, length, Option, None, Some, IfSome}
use Rattle.std.specs.List.{AllByRecursion}
use Rattle.limits.specs.declared.TheConstants.{MOST_SEATS, MOST_WORKERS}
use Rattle.number_laws.specs.Missing.{IsAtMost}
use Rattle.plant_model.specs.declared.parts.Parts.{Parts}
use Rattle.slot_box.specs.declared.node.Node.{Node}
use Rattle.slot_box.specs.declared.node.Node.TheVariants.{Inner, Leaf}
use Rattle.slot_box.specs.Nodes.{inner_count, AreTickets, HaveParents}
use Rattle.slot_box.specs.Ranges.{IsNodeInRange}
use Rattle.leaf_value.specs.Settings.{plain_setting}
use Rattle.leaf_value.specs.TreeValue.{AreLawful, IsBoundOf}
use Rattle.leaf_value.specs.Budget.{KeepsBudget}
use Rattle.greedy_plan.specs.Greedy.{all_operations}
use Rattle.plan_build.specs.Built.{IsBuilt, IsPlanned, found_margin}
use Rattle.overlap_graph.specs.Cliques.{cliques_of}
use Rattle.overlap_graph.specs.Independence.{independence_of}
use Rattle.search_board.specs.Seats.{BoardView, SeatView}
use Rattle.search_node.specs.declared.looked.NodeNote.{NodeNote}
use Rattle.search_node.specs.Notes.{NoteOver}
use Rattle.search_team.specs.declared.team.Together.{Together}
use Rattle.search_team.specs.Teamwork.{HaveNoCuts, IsTeamwork, lists_over}
use Rattle.crude_run.specs.declared.search.Begun.{Begun}
use Rattle.crude_run.specs.declared.search.Found.{Found}
use Rattle.crude_run.specs.Thorough.{IsThorough}
use Rattle.crude_run.specs.Worked.{IsWorkedOff, WorkedAlone, root_task}

-- ---- the beginning

-- the first seat of the board, once it has offered the margin of the first plan and has looked: with all other seats
-- still to be made
pub record IsReadySeat (of : BoardView) (first : Option ℤ) (seat : SeatView) : Type 0 where
  pub board : seat.board ≡ of
  pub tickets : seat.tickets ≡ []
  pub offer : seat.offer ≡ first
  pub seen : IsAtMost first seat.seen
  pub stands : seat.stands ≡ 1
  pub may : seat.may ≡ MOST_SEATS - 1

-- the scales of the plant, a first plan, a board with the budget's tickets, its seat, and the root's task
pub record IsBegun (parts : Parts) (n budget : ℕ) (begun : Begun) : Type 0 where
  pub cliques : begun.scales.cliques ≡ cliques_of parts
  pub automaton : begun.scales.automaton ≡ independence_of parts
  pub built : IsBuilt parts n (all_operations parts) begun.first
  pub tickets : begun.board.budget ≡ budget
  pub ready : IsReadySeat begun.board (found_margin begun.first) begun.seat
  pub root : begun.root ≡ root_task parts n

-- ---- the work

-- what so many workers gave back, who were given such a seat
pub record IsSearched (parts : Parts) (n workers : ℕ) (board : BoardView) (first : Option ℤ) (together : Together)
    : Type 0 where
  pub before : SeatView
  pub ready : IsReadySeat board first before
  pub lists : List (List NoteOver)
  pub work : IsTeamwork parts n (root_task parts n) before together.seat lists together.found
  pub notes : together.notes ≡ lists_over lists
  pub cuts : HaveNoCuts together.cuts
  pub each : length together.cuts ≡ length together.notes
  pub few : length together.notes ≤ MOST_WORKERS + 1
  -- one worker alone worked off the whole tree in order
  pub alone : workers ≡ 1 → WorkedAlone parts n lists

-- ---- the bound of notes

-- the value of a leaf; a node that was divided gives none
abbrev pub leaf_value_in : Node → Option ℤ → Option ℤ
leaf_value_in (Inner ticket split) value = None
leaf_value_in (Leaf leaf) value = value

-- that of a note
abbrev pub leaf_value_noted : NodeNote → Option ℤ
leaf_value_noted note = leaf_value_in note.node note.value

-- some note has this value of a leaf
abbrev pub IsNotedValue : List NodeNote → ℤ → Type 0
IsNotedValue notes value = (note : NodeNote) × Contains notes note × (leaf_value_noted note ≡ Some value)

-- the greatest value of a leaf that was noted
pub record IsGreatestNoted (notes : List NodeNote) (bound : Option ℤ) : Type 0 where
  pub most : All (λ (note : NodeNote). IsAtMost (leaf_value_noted note) bound) notes
  pub there : IfSome bound (IsNotedValue notes)

-- the notes of all workers
abbrev pub all_noted : List (List NodeNote) → List NodeNote
all_noted [] = []
all_noted (notes ∷ lists) = notes ++ all_noted lists

-- ---- the end

-- the tree is one that a dossier may give, for the plain case of n slots; the bound is the greatest value of a leaf,
-- and the best plan, where one was found, is legal and has at most n operations; the tree keeps to the budget
pub record IsFound (parts : Parts) (n budget workers : ℕ) (found : Found) : Type 0 where
  pub inner : inner_count found.tree ≡ found.tickets
  pub nodes : length found.tree ≡ 2 * found.tickets + 1
  pub numbers : AllByRecursion IsNodeInRange found.tree
  pub tickets : AreTickets found.tickets found.tree
  pub parents : HaveParents found.tree
  pub lawful : AreLawful (plain_setting parts n) found.tree
  pub thorough : IsThorough (plain_setting parts n) found.tree
  pub bound : IsBoundOf (plain_setting parts n) found.tree found.bound
  pub plan : IfSome found.best (IsPlanned parts n)
  -- it earns no less than the greedy plan of all operations, and none was found only where that is not legal
  pub built : IsBuilt parts n (all_operations parts) found.best
  pub budget_kept : KeepsBudget (plain_setting parts n) budget found.tree (found_margin found.best)
  pub worked : IsWorkedOff parts n workers found.tickets found.tree (found_margin found.best)
