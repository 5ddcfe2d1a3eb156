-- Decks that are dealt out to workers, and what is left of them.
use Rattle.std.specs.Prelude.{◌≡◌, ℕ, ◌-◌, ◌<◌, All, IsPermutation, List, [], ◌∷◌, ◌++◌, length, slice_index_or}
use Rattle.slot_box.specs.Tasks.{TaskParts}
use Rattle.task_deck.specs.declared.ends.Door.{Door}
use Rattle.task_deck.specs.declared.ends.DoorPass.{DoorPass}
use Rattle.task_deck.specs.declared.ends.Owner.{Owner}
use Rattle.task_deck.specs.Decks.{deck_behind, deck_of, owner_view, pass_view}
use Rattle.team_decks.specs.Rows.{AreRows, stolen_by_all}

-- each owner is that of the deck behind the door of its place, and has made so many passes
pub record AreOwners (doors : List Door) (count : ℕ) (owners : List Owner) : Type 0 where
  pub many : length owners ≡ length doors
  pub deck : (i : ℕ) (owner : Owner) (door : Door) → i < length owners →
      deck_of (slice_index_or owners i owner) ≡ deck_behind (slice_index_or doors i door)
  pub passes : (i : ℕ) (owner : Owner) → i < length owners → (owner_view (slice_index_or owners i owner)).passes ≡ count

-- nothing was pushed to the deck or popped from it yet
pub record IsUntouched (owner : Owner) : Type 0 where
  pub pushed : (owner_view owner).pushed ≡ []
  pub popped : (owner_view owner).popped ≡ []

-- nothing was stolen by these passes yet
abbrev pub HaveStolenNone : List DoorPass → Type 0
HaveStolenNone passes = All (λ pass. (pass_view pass).stolen ≡ []) passes

-- so many decks, with a door for each, and with passes for all workers
pub record AreDealt (workers : ℕ) (doors : List Door) (owners : List Owner) (rows : List (List DoorPass)) : Type 0 where
  pub each_door : length doors ≡ workers
  pub each_owner : AreOwners doors (workers - 1) owners
  pub untouched : All IsUntouched owners
  pub each_row : length rows ≡ workers
  pub dealt : AreRows doors (λ number. workers) rows
  pub none_stolen : All HaveStolenNone rows

-- ---- what all owners did

-- the tasks that they pushed
abbrev pub pushed_by_all : List Owner → List TaskParts
pushed_by_all [] = []
pushed_by_all (owner ∷ owners) = (owner_view owner).pushed ++ pushed_by_all owners

-- and those that they popped
abbrev pub popped_by_all : List Owner → List TaskParts
popped_by_all [] = []
popped_by_all (owner ∷ owners) = (owner_view owner).popped ++ popped_by_all owners

-- of the tasks that were pushed to decks these are left: each other one was popped or stolen, once
abbrev pub AreLeftOf : List Owner → List (List DoorPass) → List TaskParts → Type 0
AreLeftOf owners rows left =
    IsPermutation (pushed_by_all owners) (popped_by_all owners ++ stolen_by_all rows ++ left)
