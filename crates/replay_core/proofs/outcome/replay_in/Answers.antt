use Rattle.std.proofs.Common.{ap, ◌∙◌}
use Rattle.std.proofs.lemmas.Result.{err_from_is_err_and}
use Rattle.item_lists.specs.Faults.{first_of}
use Rattle.replay_core.specs.Replayed.{Replayed}
use Rattle.replay_core.specs.Legal.{step_faults_from}
use Rattle.replay_core.proofs.StepLaws.{first_broken_by_steps}
use Rattle.replay_core.proofs.outcome.replay_in.Goals as goal

pub returns-in_err-run : goal.returns-in_err-run
returns-in_err-run c =
    let plan = c.args.plan.now in
    let answer = err_from_is_err_and c.from_residual-in_err-run.result c.from_residual-in_err-run.ensures.1 in
    let first = ap (λ (r : Replayed). first_of (step_faults_from r.parts r.order r.steps plan)) c.in_ok-replay.ensures in
    rw (answer.1, answer.2) (first_broken_by_steps c.args.plant.now c.args.order plan c.in_err-run.field-0.0 (c.in_err-run.ensures.broken ∙ first))
