-- How long an operation may run for a volume, and the most that it can move.
use Rattle.std.specs.Prelude.{ℕ, ◌*◌, ◌≤◌, Option, None, Some}
use Rattle.limits.specs.declared.TheConstants.{MOST_HORIZON, MOST_RATE, MOST_VOLUME}
use Rattle.greedy_plan.specs.declared.room.Room.{Room}
use Rattle.greedy_plan.specs.declared.room.Run.{Run}

-- the volume is moved in so many minutes at one of the rates, which are for each 1440 minutes
pub record Moves (rate : ℕ × ℕ) (volume minutes : ℕ) : Type 0 where
  pub some : 1 ≤ minutes
  pub not_too_slowly : rate.0 * minutes ≤ 1440 * volume
  pub not_too_fast : 1440 * volume ≤ rate.1 * minutes

-- what of an operation makes a room: a volume is at least 1
pub record IsRoom (room : Room) : Type 0 where
  pub order : room.rate.0 ≤ room.rate.1
  pub rate : room.rate.1 ≤ MOST_RATE
  pub some : 1 ≤ room.least
  pub volume : room.most ≤ MOST_VOLUME
  pub minutes : room.minutes ≤ MOST_HORIZON

-- the room has place for the volume, moved in so many minutes
pub record Takes (room : Room) (volume minutes : ℕ) : Type 0 where
  pub least : room.least ≤ volume
  pub most : volume ≤ room.most
  pub in_time : minutes ≤ room.minutes
  pub moves : Moves room.rate volume minutes

-- it is taken, nothing greater is, and its volume in no less time
pub record IsGreatest (room : Room) (run : Run) : Type 0 where
  pub taken : Takes room run.volume run.minutes
  pub greatest : (volume minutes : ℕ) → Takes room volume minutes → volume ≤ run.volume
  pub shortest : (minutes : ℕ) → Takes room run.volume minutes → run.minutes ≤ minutes

-- the greatest volume that the room takes, and the least minutes for it; or none, where it takes none
abbrev pub IsGreatestRun : Room → Option Run → Type 0
IsGreatestRun room None = (volume minutes : ℕ) → Takes room volume minutes → ⊥
IsGreatestRun room (Some run) = IsGreatest room run

-- the whole of what the room has place for, with the least minutes for it; or none, where it does not take the whole
abbrev pub IsWhole : Room → Option Run → Type 0
IsWhole room None = (minutes : ℕ) → Takes room room.most minutes → ⊥
IsWhole room (Some run) = IsGreatest room run
