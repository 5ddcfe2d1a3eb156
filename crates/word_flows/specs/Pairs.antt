-- What two operations of a run have to keep of one another, wherever they stand in it.
use Rattle.std.specs.Prelude.{ℕ, ◌<◌, ◌≤◌, IsTrue, List, length}
use Rattle.plant_model.specs.declared.parts.Parts.{Parts}
use Rattle.plant_model.specs.Parts.{op_of}
use Rattle.plant_model.specs.Relations.{share_berth, refused_at_once_of}
use Rattle.replay_core.specs.declared.timed.Timed.{Timed}
use Rattle.replay_core.specs.Steps.{step_at}
use Rattle.word_flows.specs.Runs.{IsRun}

-- of two that may not run at one moment the later one waits for the end of the first
abbrev pub RunsWait : Parts → Type 0
RunsWait parts =
    (word : List Timed) (i k : ℕ) → IsRun parts word → i < k → k < length word
    → IsTrue (refused_at_once_of parts (step_at word i).op (step_at word k).op)
    → (step_at word i).end ≤ (step_at word k).start

-- of two that unload at one berth the later one's vessel stands no earlier in the list
abbrev pub VesselsTakeTurns : Parts → Type 0
VesselsTakeTurns parts =
    (word : List Timed) (i k : ℕ) → IsRun parts word → i < k → k < length word
    → IsTrue (share_berth parts (op_of parts (step_at word i).op) (op_of parts (step_at word k).op))
    → (op_of parts (step_at word i).op).from ≤ (op_of parts (step_at word k).op).from
