-- A plan and its lines: each names an operation of the plant.
use Rattle.std.specs.Prelude.{ℕ, ◌+◌, ◌^◌, ◌<◌, ◌≤◌, List, [], ◌∷◌, map, length, All}
use Rattle.limits.specs.declared.TheConstants.{MOST_STEPS}
use Rattle.plant_model.specs.declared.parts.Parts.{Parts}
use Rattle.plant_model.specs.Parts.{op_count_of, op_name_of, op_by_name_of}
use Rattle.replay_core.specs.declared.timed.Timed.{Timed}
use Rattle.plan_text.specs.declared.op_line.OpLine.{OpLine}

-- the operation of a line; a name that the plant has not reads as operation 255, which no plant has
abbrev pub timed_of : Parts → OpLine → Timed
timed_of parts line =
    record { op = op_by_name_of parts line.name; start = line.start; end = line.end; volume = line.volume }

-- the operations of lines
abbrev pub plan_of : Parts → List OpLine → List Timed
plan_of parts lines = map (timed_of parts) lines

-- the line of an operation that is the plant's, with this number
abbrev pub line_for : Parts → ℕ → Timed → OpLine
line_for parts number t =
    record { number = number; name = op_name_of parts t.op; start = t.start; end = t.end; volume = t.volume }

-- the lines of operations, the first of which has this number
abbrev pub lines_from : Parts → ℕ → List Timed → List OpLine
lines_from parts number [] = []
lines_from parts number (t ∷ later) = line_for parts number t ∷ lines_from parts (number + 1) later

-- the operation is the plant's, and its numbers are of 32 bits
pub record IsSayable (parts : Parts) (t : Timed) : Type 0 where
  pub known : t.op < op_count_of parts
  pub start : t.start < 2 ^ 32
  pub end : t.end < 2 ^ 32
  pub volume : t.volume < 2 ^ 32

-- a plan that has a text: its operations are the plant's, and no more than a plan may have
pub record IsPrintable (parts : Parts) (plan : List Timed) : Type 0 where
  pub few : length plan ≤ MOST_STEPS
  pub each : All (IsSayable parts) plan
