use Rattle.std.proofs.Common.{◌≤◌, length, arith, ap, sym, ◌∙◌}
use Rattle.std.specs.Result.{result_err}
use Rattle.limits.specs.declared.TheConstants.{MOST_STEPS}
use Rattle.dossier_check.proofs.PlanLaws.{short_by_none, broken_line}
use Rattle.dossier_check.proofs.plan.check_rules.Goals as goal

pub rule_reason-requires : goal.rule_reason-requires
rule_reason-requires c = λ few.
    let short : length c.args.steps.now ≤ c.args.slots = short_by_none _ _ _ (sym c.expect.ensures ∙ ap result_err c.in_ok-expect.was) in
    let within : length c.args.steps.now ≤ MOST_STEPS = omega arith in
    let broken = rw c.in-Err-Rule.field-0-is at c.in-Err-Rule.ensures in
    broken_line MOST_STEPS c.args.plant.now c.args.steps.now c.in-Err-Rule.broken within broken few
