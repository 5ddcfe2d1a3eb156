use Rattle.std.proofs.Common.{refl, get_or, subst, ap, List}
use Rattle.std.proofs.lemmas.List.{get_or_default}
use Rattle.std.proofs.lemmas.Result.{err_from_is_err_and}
use Rattle.replay_core.specs.declared.timed.Timed.{Timed}
use Rattle.replay_core.specs.declared.order.Order.TheVariants.{ByStart}
use Rattle.replay_core.specs.Replayed.{Replayed}
use Rattle.replay_core.proofs.StepLaws.{CanRun-nil}
use Rattle.plan_text.specs.inside.Running.{BreaksStep}
use Rattle.plan_text.proofs.LedgerLaws.{refused_at}
use Rattle.plan_text.proofs.ledger_text.write_steps.Goals as goal

pub loop-i-init : goal.loop-i-init
loop-i-init c = record { ran = c.requires.fresh; can_run = CanRun-nil c.args.plant.now ByStart; whole = refl }

pub returns-in_err-write_step-clause-broken : goal.returns-in_err-write_step-clause-broken
returns-in_err-write_step-clause-broken c =
    let parts = c.args.plant.now in
    let plan = c.args.plan.now in
    let fault = c.in_err-write_step.field-0.0 in
    let answer = err_from_is_err_and c.from_residual.result c.from_residual.ensures.1 in
    let none : Timed = record { op = 0; start = 0; end = 0; volume = 0 } in
    let t : Timed = get_or plan c.loop-i.i none in
    let steps = ap (λ (r : Replayed). r.steps) c.loop-i.invariant.ran in
    let breaks = subst (λ (xs : List Timed). BreaksStep parts xs t fault) steps c.in_err-write_step.ensures.broken in
    rw (answer.1, answer.2) (refused_at parts plan c.loop-i.i t fault c.loop-i-test.true (get_or_default plan c.loop-i.i none t c.loop-i-test.true)
    c.loop-i.invariant.can_run breaks)
