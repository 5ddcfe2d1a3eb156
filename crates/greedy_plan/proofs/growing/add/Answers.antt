use Rattle.std.proofs.Common.{sym, ◌∙◌}
use Rattle.greedy_plan.proofs.StepLaws.{added, left_out}
use Rattle.greedy_plan.proofs.growing.add.Goals as goal

pub returns-in_ok-push-clause-next : goal.returns-in_ok-push-clause-next
returns-in_ok-push-clause-next c =
    c.in_ok-push.ensures.items
    ∙ sym (added c.args.plant.now c.args.steps.now.items c.args.v c.in-Some.t c.step.result c.requires.known
    (rw c.as_slice.ensures.value at (sym c.choice.ensures.value ∙ c.in-Some.is)) (rw c.requires.same at c.step.ensures.broken)
    (sym c.is_ok.ensures.value ∙ c.if-is_ok.true))

pub returns-else-is_ok-clause-next : goal.returns-else-is_ok-clause-next
returns-else-is_ok-clause-next c =
    sym (left_out c.args.plant.now c.args.steps.now.items c.args.v c.in-Some.t c.step.result c.requires.known
    (rw c.as_slice.ensures.value at (sym c.choice.ensures.value ∙ c.in-Some.is)) (rw c.requires.same at c.step.ensures.broken)
    (sym c.is_ok.ensures.value ∙ c.if-is_ok.false))
