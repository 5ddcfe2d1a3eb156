-- How the tasks of a deck were dealt out, on plain lists.
use Rattle.std.specs.Prelude.{◌≡◌, ℕ, suc, ◌<◌, ◌==◌, if◌then◌else◌, List, [], ◌∷◌, ◌++◌, length, IsPermutation}
use Rattle.slot_box.specs.Tasks.{TaskParts}
use Rattle.task_deck.specs.declared.ends.DoorPass.{DoorPass}
use Rattle.task_deck.specs.Decks.{stolen_by}

-- tasks in the order in which they left a deck, each with who took it: 0 is the owner, k + 1 the pass of number k
abbrev pub Takes : Type 0
Takes = List (ℕ × TaskParts)

-- the tasks alone
abbrev pub tasks_of : Takes → List TaskParts
tasks_of [] = []
tasks_of (take ∷ takes) = take.1 ∷ tasks_of takes

-- those that one of them took
abbrev pub taken_by : ℕ → Takes → List TaskParts
taken_by who [] = []
taken_by who (take ∷ takes) = if who == take.0 then take.1 ∷ taken_by who takes else taken_by who takes

-- the passes from this number on took these
abbrev pub AreTaken : Takes → ℕ → List (List TaskParts) → Type 0
AreTaken takes pass [] = Unit {0}
AreTaken takes pass (tasks ∷ more) = (tasks ≡ taken_by (suc pass) takes) × AreTaken takes (suc pass) more

-- the account of a deck: in one order, that of pushing, each task that was pushed left the deck once. The owner took
-- what it popped and then what was left, each pass what it stole, and nobody else took any
pub record IsAccount (pushed popped : List TaskParts) (stolen : List (List TaskParts)) (left : List TaskParts) :
    Type 0 where
  pub takes : Takes
  pub pushed_all : pushed ≡ tasks_of takes
  pub owner : popped ++ left ≡ taken_by 0 takes
  pub passes : AreTaken takes 0 stolen
  pub no_other : (who : ℕ) → length stolen < who → taken_by who takes ≡ []

-- the tasks of all lists, list by list
abbrev pub all_of : List (List TaskParts) → List TaskParts
all_of [] = []
all_of (tasks ∷ more) = tasks ++ all_of more

-- the tasks that passes stole, pass by pass
abbrev pub all_stolen : List DoorPass → List TaskParts
all_stolen passes = all_of (stolen_by passes)

-- so the tasks that were pushed are those that were popped, that are left and that were stolen, each once, in some order
abbrev pub AccountsAddUp : Type 0
AccountsAddUp =
    (pushed popped : List TaskParts) (stolen : List (List TaskParts)) (left : List TaskParts)
    → IsAccount pushed popped stolen left → IsPermutation pushed ((popped ++ left) ++ all_of stolen)
