-- How the passes of all decks are dealt out to workers: each worker has a pass for each door but its own, in the order
-- of the doors, and each deck numbers its passes in the order of the workers.
use Rattle.std.specs.Prelude.{◌≡◌, ℕ, ◌+◌, ◌-◌, ◌<◌, nat_lt, if◌then◌else◌, List, [], ◌∷◌, ◌++◌, length, slice_index_or}
use Rattle.slot_box.specs.Tasks.{TaskParts}
use Rattle.task_deck.specs.declared.ends.Door.{Door}
use Rattle.task_deck.specs.declared.ends.DoorPass.{DoorPass}
use Rattle.task_deck.specs.Decks.{IsPassOfDeck, deck_behind, pass_view}
use Rattle.task_deck.specs.Accounts.{all_stolen}

-- how many of the first numbers, so many of them, are others than this one
abbrev pub others_of : ℕ → ℕ → ℕ
others_of number count = if nat_lt number count then count - 1 else count

-- the number at this place among the others in rising order
abbrev pub other_at : ℕ → ℕ → ℕ
other_at number place = if nat_lt place number then place else place + 1

-- the place of the other number, if it is another one
abbrev pub place_of : ℕ → ℕ → ℕ
place_of number other = if nat_lt other number then other else other - 1

-- the passes that the worker of this number has for the first doors, so many of them
pub record IsRow (doors : List Door) (count number : ℕ) (passes : List DoorPass) : Type 0 where
  pub many : length passes ≡ others_of number count
  pub deck : (i : ℕ) (door : Door) (pass : DoorPass) → i < length passes →
      IsPassOfDeck (deck_behind (slice_index_or doors (other_at number i) door)) (slice_index_or passes i pass)
  pub place : (i : ℕ) (pass : DoorPass) → i < length passes →
      (pass_view (slice_index_or passes i pass)).number ≡ place_of (other_at number i) number

-- of all workers, each of which has them for so many doors
abbrev pub AreRows : List Door → (ℕ → ℕ) → List (List DoorPass) → Type 0
AreRows doors count rows =
    (number : ℕ) (row : List DoorPass) → number < length rows → IsRow doors (count number) number (slice_index_or rows number row)

-- the first workers have them for one door more
abbrev pub one_more_below : ℕ → ℕ → ℕ → ℕ
one_more_below count worker number = if nat_lt number worker then count + 1 else count

-- the first workers have them for one door less
abbrev pub one_less_below : ℕ → ℕ → ℕ → ℕ
one_less_below count worker number = if nat_lt number worker then count else count + 1

-- the tasks that all passes stole
abbrev pub stolen_by_all : List (List DoorPass) → List TaskParts
stolen_by_all [] = []
stolen_by_all (row ∷ rows) = all_stolen row ++ stolen_by_all rows
