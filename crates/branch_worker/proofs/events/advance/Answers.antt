use Rattle.std.proofs.Common.{◌<◌, Option, Some, subst}
use Rattle.slot_box.specs.Tasks.{TaskParts}
use Rattle.branch_worker.specs.inside.Working.{work_left}
use Rattle.branch_worker.proofs.StepLaws.{less-then}
use Rattle.branch_worker.proofs.events.advance.Goals as goal

pub returns-in-None-clause-less : goal.returns-in-None-clause-less
returns-in-None-clause-less g c =
    let budget = c.args.site.now.board.now.budget in
    let less = subst (λ (next : Option TaskParts). work_left budget c.step.new.worker next < work_left budget c.args.worker.now (Some c.args.task)) c.in-None.is
    c.in_ok-left.ensures.less in
    less-then c.take.result (λ (next : Option TaskParts). work_left budget c.take.new.worker next) _ _ (c.take.ensures.same budget) less
