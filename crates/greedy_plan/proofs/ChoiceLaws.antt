-- The choice of an operation is the greatest run of its room.
use Rattle.std.proofs.Common.{◌≡◌, ◌↔◌, ℕ, ◌≤◌, true, Some, None, is_some, IsTrue, List, inl, inr, arith}
use Rattle.std.proofs.lemmas.Bool.{cases_lt, false≢true}
use Rattle.number_laws.proofs.PassingLaws.{greatest_is_none, greatest_is, least_is_none, least_is}
use Rattle.plant_model.specs.declared.parts.Parts.{Parts}
use Rattle.plant_model.specs.Parts.{horizon_of, op_of}
use Rattle.plant_model.specs.Sound.{SoundOp}
use Rattle.replay_core.specs.declared.timed.Timed.{Timed}
use Rattle.greedy_plan.specs.declared.room.Room.{Room}
use Rattle.greedy_plan.specs.declared.room.Run.{Run}
use Rattle.greedy_plan.specs.Runs.{Takes, IsGreatest}
use Rattle.greedy_plan.specs.Greedy.{earliest, fits, least_minutes, greatest_volume, choice_of}
use Rattle.greedy_plan.proofs.FitLaws.{fits_well}

-- the room takes just what fits from the earliest start on
abbrev pub IsRoomOf : Parts → List Timed → ℕ → Room → Type 0
IsRoomOf parts before v room =
    (volume minutes : ℕ) → IsTrue (fits parts before (earliest parts before v volume minutes)) ↔ Takes room volume minutes

-- a volume that is taken in no time has no least minutes
no_minutes : (parts : Parts) (before : List Timed) (v : ℕ) (room : Room) (volume : ℕ) → IsRoomOf parts before v room
    → ((minutes : ℕ) → Takes room volume minutes → ⊥) → least_minutes parts before v volume ≡ None
unfolding least_minutes
no_minutes parts before v room volume takes none =
    least_is_none (horizon_of parts) (λ minutes. fits parts before (earliest parts before v volume minutes))
    (λ minutes h is. none minutes ((takes volume minutes).0 is))

pub choice_is_none : (parts : Parts) (before : List Timed) (v : ℕ) (room : Room) → IsRoomOf parts before v room
    → ((volume minutes : ℕ) → Takes room volume minutes → ⊥) → choice_of parts before v ≡ None
unfolding choice_of greatest_volume
choice_is_none parts before v room takes none =
    let no_volume = greatest_is_none (op_of parts v).volume.1 (λ volume. is_some (least_minutes parts before v volume))
    (λ volume h is. (let nothing = no_minutes parts before v room volume takes (none volume) in
    absurd (false≢true (rw nothing at is)))) in
    rw no_volume

-- the least minutes of the greatest volume are those of the run
least_of_run : (parts : Parts) (before : List Timed) (v : ℕ) (room : Room) (run : Run) → run.minutes ≤ horizon_of parts
    → IsRoomOf parts before v room → IsGreatest room run
    → IsTrue (fits parts before (earliest parts before v run.volume run.minutes))
    → least_minutes parts before v run.volume ≡ Some run.minutes
unfolding least_minutes
least_of_run parts before v room run in_horizon takes greatest fit =
    least_is (horizon_of parts) run.minutes (λ minutes. fits parts before (earliest parts before v run.volume minutes))
    in_horizon fit (λ minutes is. greatest.shortest minutes ((takes run.volume minutes).0 is))

-- a volume that fits is no greater than that of the run
no_greater : (parts : Parts) (before : List Timed) (v : ℕ) (room : Room) (run : Run) (volume : ℕ)
    → IsRoomOf parts before v room → IsGreatest room run → is_some (least_minutes parts before v volume) ≡ true
    → volume ≤ run.volume
no_greater parts before v room run volume takes greatest is =
    elim (cases_lt run.volume volume) [
      | inl more ↦ (let nothing = no_minutes parts before v room volume takes
          (λ minutes taken. (let most = greatest.greatest volume minutes taken in omega (arith, most, more))) in
          absurd (false≢true (rw nothing at is)))
      | inr most ↦ most
    ]

pub choice_is_some : (parts : Parts) (before : List Timed) (v : ℕ) (room : Room) (run : Run) → SoundOp parts (op_of parts v)
    → IsRoomOf parts before v room → IsGreatest room run
    → choice_of parts before v ≡ Some (earliest parts before v run.volume run.minutes)
unfolding choice_of greatest_volume
choice_is_some parts before v room run sound takes greatest =
    let fit : IsTrue (fits parts before (earliest parts before v run.volume run.minutes)) =
    (takes run.volume run.minutes).1 greatest.taken in
    let well = fits_well parts before (earliest parts before v run.volume run.minutes) fit in
    let minutes : least_minutes parts before v run.volume ≡ Some run.minutes = least_of_run parts before v room run
    (omega (arith, well.closes, sound.within_horizon)) takes greatest fit in
    let volume = greatest_is (op_of parts v).volume.1 run.volume (λ volume. is_some (least_minutes parts before v volume))
    well.most (rw minutes) (λ other h is. no_greater parts before v room run other takes greatest is) in
    rw (volume, minutes)
