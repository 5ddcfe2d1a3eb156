use Rattle.std.proofs.Common.{◌≡◌, ◌≤◌, take}
use Rattle.plant_model.specs.Parts.{op_of}
use Rattle.greedy_plan.specs.Greedy.{earliest_start}
use Rattle.greedy_plan.proofs.choice.earliest_start.Given as goal

abbrev pub invariant-loop-step : goal.invariant-loop-step
invariant-loop-step l = record {
  value : l.start ≡ earliest_start l.plant (take l.step-index l.before) l.v;
  opened : (op_of l.plant l.v).window.0 ≤ l.start;
}
