-- Words whose operations run one after the other, each keeping every rule but perhaps that on the order.
use Rattle.std.specs.Prelude.{◌≡◌, ◌↔◌, ℕ, ◌+◌, ◌<◌, IsTrue, List, [], length, take}
use Rattle.plant_model.specs.declared.parts.Parts.{Parts}
use Rattle.replay_core.specs.declared.timed.Timed.{Timed}
use Rattle.replay_core.specs.declared.order.Order.{Order}
use Rattle.replay_core.specs.Rules.{keeps_order}
use Rattle.replay_core.specs.Legal.{own_faults, place_faults, CanRun}
use Rattle.replay_core.specs.Steps.{step_at}

-- the operation breaks no rule, but perhaps that on the order, where those others have run before it
pub record Runs (parts : Parts) (before : List Timed) (t : Timed) : Type 0 where
  pub own : own_faults parts t (length before + 1) ≡ []
  pub places : place_faults parts before t (length before + 1) ≡ []

-- so does each operation of the word where those in front of it have run
abbrev pub IsRun : Parts → List Timed → Type 0
IsRun parts word = (k : ℕ) → k < length word → Runs parts (take k word) (step_at word k)

-- each operation of the word keeps the order that is asked for
abbrev pub KeepsOrder : Parts → Order → List Timed → Type 0
KeepsOrder parts order word =
    (k : ℕ) → k < length word → IsTrue (keeps_order parts order (take k word) (step_at word k))

-- operations can run one after the other exactly where they are a run and keep the order that is asked for
abbrev pub CanRunAsRuns : Parts → Type 0
CanRunAsRuns parts =
    (order : Order) (word : List Timed) → CanRun parts order word ↔ (IsRun parts word × KeepsOrder parts order word)
