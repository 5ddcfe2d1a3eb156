-- What is asked of a word so that its form can be summed, and that a word that runs meets it.
use Rattle.std.proofs.Common.{◌≡◌, ℕ, ◌+◌, ◌<◌, ◌≤◌, List, [], length, take, drop, subst, sym, ◌∙◌}
use Rattle.std.proofs.lemmas.List.{take_more, take-append-drop}
use Rattle.limits.specs.declared.TheConstants.{MOST_OPERATIONS}
use Rattle.plant_model.specs.declared.parts.Parts.{Parts}
use Rattle.plant_model.specs.Parts.{op_count_of, crude_count_of, op_of}
use Rattle.plant_model.specs.Sound.{SoundPlant}
use Rattle.replay_core.specs.declared.order.Order.{Order}
use Rattle.replay_core.specs.declared.timed.Timed.{Timed}
use Rattle.replay_core.specs.Legal.{CanRun}
use Rattle.replay_core.specs.State.{state_after}
use Rattle.replay_core.proofs.RuleLaws.{RunsSoundly, runs_soundly}
use Rattle.replay_core.proofs.StateLaws.{drawn-crudes, holds_within-accepted}
use Rattle.replay_core.proofs.StepLaws.{CanRun-front, op_faults-accepted}
use Rattle.replay_core.specs.Steps.{no_step, step_at, draw_in}

-- its operations are known, and each draws so much of each crude
pub record Fits (parts : Parts) (word : List Timed) : Type 0 where
  pub few : op_count_of parts ≤ MOST_OPERATIONS
  pub known : (k : ℕ) → k < length word → (step_at word k).op < op_count_of parts
  pub draws : (k : ℕ) → k < length word → length (draw_in parts word k) ≡ crude_count_of parts

-- the operations before the k-th run
front_runs : (parts : Parts) (order : Order) (word : List Timed) (k : ℕ) → CanRun parts order word → CanRun parts order (take k word)
front_runs parts order word k runs =
    CanRun-front parts order (take k word) (drop k word) (subst (CanRun parts order) (sym (take-append-drop k word)) runs)

step_runs : (parts : Parts) (order : Order) (word : List Timed) (k : ℕ) → SoundPlant parts → CanRun parts order word → k < length word →
    RunsSoundly parts (state_after parts (take k word)) (step_at word k)
step_runs parts order word k sound runs there =
    let one = subst (CanRun parts order) (take_more word k no_step there) (front_runs parts order word (k + 1) runs) in
    runs_soundly parts order (take k word) (step_at word k) (length (take k word) + 1) sound
    (op_faults-accepted parts order (take k word) (step_at word k) [] one)

pub fits-run : (parts : Parts) (order : Order) (word : List Timed) → SoundPlant parts → CanRun parts order word → Fits parts word
fits-run parts order word sound runs = record {
  few = sound.ops;
  known = λ k there. (step_runs parts order word k sound runs there).known;
  draws = λ k there.
      drawn-crudes parts (state_after parts (take k word)) (step_at word k)
      ∙ (holds_within-accepted parts order (take k word) sound (front_runs parts order word k runs)).crudes (op_of parts (step_at word k).op).from
      (step_runs parts order word k sound runs there).sound.from_place;
}
