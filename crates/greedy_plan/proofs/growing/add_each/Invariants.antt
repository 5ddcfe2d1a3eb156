use Rattle.std.proofs.Common.{◌≡◌, ◌<◌, ◌≤◌, All, length, take}
use Rattle.plant_model.specs.Parts.{op_count_of}
use Rattle.replay_core.specs.declared.timed.Timed.{Timed}
use Rattle.replay_core.specs.declared.order.Order.TheVariants.{ByStart}
use Rattle.greedy_plan.specs.Greedy.{greedy_of}
use Rattle.greedy_plan.proofs.growing.add_each.Given as goal

abbrev pub invariant-loop-v : goal.invariant-loop-v
invariant-loop-v l = record {
  value : l.steps.items ≡ greedy_of l.plant l.n (take l.v-index l.ops);
  same : l.replay ≡ record { parts = l.plant; order = ByStart; steps = l.steps.items };
  few : length l.steps.items ≤ l.n;
  all_known : All (λ (t : Timed). t.op < op_count_of l.plant) l.steps.items;
}
