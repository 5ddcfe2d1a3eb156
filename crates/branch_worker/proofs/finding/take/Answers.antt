use Rattle.branch_worker.proofs.FindLaws.{IsWorking-taken}
use Rattle.branch_worker.proofs.finding.take.Goals as goal

pub returns-clause-working : goal.returns-clause-working
returns-clause-working g c =
    rw c.in_ok-tested.ensures.same (IsWorking-taken g.start c.args.worker.now c.requires.1 c.in-Some.task c.pop.new.self c.in-Some.ensures)
