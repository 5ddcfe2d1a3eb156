use Rattle.std.proofs.Common.{arith}
use Rattle.plan_text.proofs.ReadingLaws.{where_none, no_line, step-found, step-none}
use Rattle.plan_text.proofs.plan.next_step.Goals as goal

pub returns-in_err-text-clause-none : goal.returns-in_err-text-clause-none
returns-in_err-text-clause-none c = where_none c.from_residual.result (no_line c.args.lines.now c.in_err-text.ensures.exact)

pub returns-clause-found : goal.returns-clause-found
returns-clause-found c =
    step-found c.args.plant.now c.args.lines.now c.next_line.new.self c.number-number.result c.in_ok-text.text.now c.step_of.result c.number-number.ensures
    c.in_ok-text.ensures.exact (omega arith) c.step_of.ensures.found

pub returns-clause-none : goal.returns-clause-none
returns-clause-none c =
    step-none c.args.lines.now c.next_line.new.self c.number-number.result c.in_ok-text.text.now c.step_of.result c.number-number.ensures
    c.in_ok-text.ensures.exact c.step_of.ensures.none
