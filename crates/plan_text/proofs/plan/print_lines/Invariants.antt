use Rattle.std.proofs.Common.{◌≡◌, ◌+◌, ◌++◌, take, drop}
use Rattle.std.specs.Prelude.{All}
use Rattle.plan_text.specs.Plans.{lines_from, IsSayable}
use Rattle.plan_text.specs.PlanText.{lines_bytes, plan_bytes}
use Rattle.plan_text.proofs.plan.print_lines.Given as goal

-- what is written and what is left make the whole
abbrev pub invariant-loop-i : goal.invariant-loop-i
invariant-loop-i l = record {
  whole : l.out.items ++ lines_bytes (lines_from l.plant (l.i + 1) (drop l.i l.plan)) ≡ plan_bytes l.plant l.plan;
  sayable : All (IsSayable l.plant) (take l.i l.plan);
}
