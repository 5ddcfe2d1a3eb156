-- What each operation of a run keeps by itself, in numbers.
use Rattle.std.specs.Prelude.{◌≡◌, ℕ, ◌-◌, ◌*◌, ◌<◌, ◌≤◌, List, length, sum}
use Rattle.plant_model.specs.declared.parts.Parts.{Parts}
use Rattle.plant_model.specs.declared.details.OpKind.TheVariants.{Charge}
use Rattle.plant_model.specs.Parts.{property_count_of, op_of, limit_of}
use Rattle.replay_core.specs.declared.timed.Timed.{Timed}
use Rattle.replay_core.specs.Rules.{content_of}
use Rattle.replay_core.specs.Legal.{IsInRange}
use Rattle.replay_core.specs.Steps.{step_at, draw_in}
use Rattle.word_flows.specs.Runs.{IsRun}

-- the number lies in the range, its ends among it
pub record IsInside (range : ℕ × ℕ) (n : ℕ) : Type 0 where
  pub from_low : range.0 ≤ n
  pub to_high : n ≤ range.1

-- the plant has each operation of a run, and it takes time within its window and moves a volume within its range
abbrev pub RunsAreInRange : Parts → Type 0
RunsAreInRange parts =
    (word : List Timed) (k : ℕ) → IsRun parts word → k < length word → IsInRange parts (step_at word k)

-- the operation runs neither too slowly nor too fast; rates are for each 1440 minutes
abbrev pub MeetsRate : Parts → Timed → Type 0
MeetsRate parts t =
    let rate = (op_of parts t.op).rate in
    let minutes = t.end - t.start in
    IsInside (rate.0 * minutes, rate.1 * minutes) (1440 * t.volume)

-- so does each operation of a run
abbrev pub RunsMeetRates : Parts → Type 0
RunsMeetRates parts =
    (word : List Timed) (k : ℕ) → IsRun parts word → k < length word → MeetsRate parts (step_at word k)

-- each operation of a run draws its volume in all
abbrev pub RunsDrawVolumes : Parts → Type 0
RunsDrawVolumes parts =
    (word : List Timed) (k : ℕ) → IsRun parts word → k < length word
    → sum (draw_in parts word k) ≡ (step_at word k).volume

-- what the charge draws has the property within its limits, for the volume as a whole
abbrev pub MeetsLimit : Parts → Timed → List ℕ → ℕ → Type 0
MeetsLimit parts t drawn property =
    let limit = limit_of parts t.op property in
    IsInside (limit.0 * t.volume, limit.1 * t.volume) (content_of parts property drawn)

-- so does each charge of a run, for each property
abbrev pub RunsMeetLimits : Parts → Type 0
RunsMeetLimits parts =
    (word : List Timed) (k property : ℕ) → IsRun parts word → k < length word
    → (op_of parts (step_at word k).op).kind ≡ Charge → property < property_count_of parts
    → MeetsLimit parts (step_at word k) (draw_in parts word k) property
