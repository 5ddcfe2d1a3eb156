-- In the middle of dealing.
use Rattle.std.specs.Prelude.{◌≡◌, ℕ, ◌-◌, All, IsPermutation, List, [], ◌++◌, length, slice_index_or}
use Rattle.slot_box.specs.Tasks.{TaskParts}
use Rattle.task_deck.specs.declared.ends.Door.{Door}
use Rattle.task_deck.specs.declared.ends.DoorPass.{DoorPass}
use Rattle.task_deck.specs.declared.ends.Owner.{Owner}
use Rattle.task_deck.specs.Accounts.{all_stolen}
use Rattle.task_deck.specs.Decks.{ArePassesFrom, deck_behind, deck_of, owner_view}
use Rattle.team_decks.specs.Dealing.{AreOwners, HaveStolenNone, IsUntouched, popped_by_all, pushed_by_all}
use Rattle.team_decks.specs.Rows.{AreRows, one_less_below, one_more_below, others_of, stolen_by_all}

-- a deck whose passes the workers below this one have
pub record IsDealing (doors : List Door) (number worker : ℕ) (owner : Owner) (rows : List (List DoorPass)) : Type 0 where
  pub deck : (door : Door) → deck_of owner ≡ deck_behind (slice_index_or doors number door)
  pub made : owner_view owner ≡ record { pushed = []; popped = []; passes = others_of number worker }
  pub given : AreRows doors (one_more_below number worker) rows
  pub stolen : All HaveStolenNone rows

-- the first decks, so many of them, are dealt out to all workers
pub record AreDealtSoFar (count workers : ℕ) (doors : List Door) (owners : List Owner) (rows : List (List DoorPass))
    : Type 0 where
  pub each_door : length doors ≡ count
  pub each_owner : AreOwners doors (workers - 1) owners
  pub untouched : All IsUntouched owners
  pub each_row : length rows ≡ workers
  pub dealt : AreRows doors (λ number. count) rows
  pub none_stolen : All HaveStolenNone rows

-- ---- in the middle of accounting

-- the passes of a deck that the workers below this one have given back
pub record IsReturning (doors : List Door) (number worker : ℕ) (first rows : List (List DoorPass)) (passes : List DoorPass)
    : Type 0 where
  pub each_row : length rows ≡ length first
  pub left : AreRows doors (one_less_below number worker) rows
  pub back : (door : Door) → ArePassesFrom (deck_behind (slice_index_or doors number door)) 0 passes
  pub many : length passes ≡ others_of number worker
  pub stolen : IsPermutation (stolen_by_all first) (stolen_by_all rows ++ all_stolen passes)

-- a deck that is accounted for: of the tasks that were pushed some more are left, and some are gone by stealing
pub record IsAccounted (doors : List Door) (number : ℕ) (owner : Owner) (first rows : List (List DoorPass))
    (before after : List TaskParts) : Type 0 where
  pub each_row : length rows ≡ length first
  pub dealt : AreRows doors (λ worker. number) rows
  pub more : List TaskParts
  pub gone : List TaskParts
  pub account : IsPermutation (owner_view owner).pushed ((owner_view owner).popped ++ more ++ gone)
  pub left : IsPermutation (before ++ more) after
  pub stolen : IsPermutation (stolen_by_all first) (stolen_by_all rows ++ gone)

-- the last decks are accounted for
pub record IsAccounting (doors all_doors : List Door) (owners all_owners : List Owner) (first rows : List (List DoorPass))
    (left : List TaskParts) : Type 0 where
  pub both : length owners ≡ length doors
  pub past : List Door
  pub doors_are : all_doors ≡ doors ++ past
  pub done : List Owner
  pub owners_are : all_owners ≡ owners ++ done
  pub each_row : length rows ≡ length first
  pub dealt : AreRows all_doors (λ worker. length doors) rows
  pub gone : List TaskParts
  pub account : IsPermutation (pushed_by_all done) (popped_by_all done ++ gone ++ left)
  pub stolen : IsPermutation (stolen_by_all first) (stolen_by_all rows ++ gone)
