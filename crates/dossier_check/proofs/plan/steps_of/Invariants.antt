use Rattle.std.proofs.Common.{◌≡◌, take}
use Rattle.plan_text.specs.Plans.{plan_of}
use Rattle.dossier_check.proofs.plan.steps_of.Given as goal

abbrev pub invariant-loop-line : goal.invariant-loop-line
invariant-loop-line l = l.steps ≡ plan_of l.plant (take l.line-index l.lines)
