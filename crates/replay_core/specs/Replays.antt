-- What the replay of a whole plan answers.
use Rattle.std.specs.Prelude.{◌≡◌, Some, Result, Ok, Err, List, ⊤}
use Rattle.plant_model.specs.declared.parts.Parts.{Parts}
use Rattle.replay_core.specs.declared.timed.Timed.{Timed}
use Rattle.replay_core.specs.declared.order.Order.{Order}
use Rattle.replay_core.specs.declared.outcome.Outcome.{Outcome}
use Rattle.replay_core.specs.declared.outcome.ReplayFault.{ReplayFault}
use Rattle.replay_core.specs.declared.outcome.ReplayFault.TheVariants.{Rule, Memory}
use Rattle.replay_core.specs.State.{state_after}
use Rattle.replay_core.specs.Legal.{first_broken_in, IsLegalIn}
use Rattle.replay_core.specs.Margin.{margin_of}

-- what operations come to that break no rule
pub record IsOutcome (parts : Parts) (order : Order) (plan : List Timed) (outcome : Outcome) : Type 0 where
  pub legal : IsLegalIn parts order plan
  pub margin : outcome.margin ≡ margin_of parts plan
  pub held : outcome.held ≡ state_after parts plan

-- the outcome of legal operations, or the first rule that they break, or the want of memory
abbrev pub Replays : Parts → Order → List Timed → Result Outcome ReplayFault → Type 0
Replays parts order plan (Ok outcome) = IsOutcome parts order plan outcome
Replays parts order plan (Err (Rule broken)) = first_broken_in parts order plan ≡ Some broken
Replays parts order plan (Err Memory) = ⊤
