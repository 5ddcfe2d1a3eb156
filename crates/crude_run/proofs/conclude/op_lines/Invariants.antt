use Rattle.std.proofs.Common.{◌≡◌, length, take}
use Rattle.plan_text.specs.PlanText.{AreOpLines}
use Rattle.plan_text.specs.Plans.{plan_of}
use Rattle.crude_run.proofs.conclude.op_lines.Given as goal

abbrev pub invariant-loop-i : goal.invariant-loop-i
invariant-loop-i l = record {
  so_far : plan_of l.plant l.lines ≡ take l.i l.plan;
  numbered : AreOpLines 1 l.lines;
  count : length l.lines ≡ l.i;
}
