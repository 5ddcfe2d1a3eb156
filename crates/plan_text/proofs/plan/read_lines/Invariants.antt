use Rattle.std.proofs.Common.{◌-◌}
use Rattle.plan_text.proofs.ReadingLaws.{AreRead}
use Rattle.plan_text.proofs.plan.read_lines.Given as goal

abbrev pub invariant-loop-lines : goal.invariant-loop-lines
invariant-loop-lines l = AreRead l.plant l.bytes l.lines l.plan

abbrev pub decreases-loop-lines : goal.decreases-loop-lines
decreases-loop-lines l = 1002 - l.lines.number
