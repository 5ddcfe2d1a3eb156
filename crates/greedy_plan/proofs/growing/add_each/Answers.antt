use Rattle.std.proofs.Common.{rules, sym, ◌∙◌}
use Rattle.greedy_plan.proofs.PlanLaws.{greedy_none}
use Rattle.greedy_plan.proofs.growing.add_each.Goals as goal

pub loop-v-init : goal.loop-v-init
loop-v-init c = record {
  value = c.new-steps.ensures.items ∙ sym (greedy_none c.args.plant.now c.args.n);
  same = rw c.new-steps.ensures.items c.requires.new;
  few = search rules;
  all_known = rw c.new-steps.ensures.items (search rules);
}
