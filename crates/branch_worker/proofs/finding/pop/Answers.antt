use Rattle.branch_worker.proofs.FindLaws.{IsWorking-pop}
use Rattle.branch_worker.proofs.finding.pop.Goals as goal

pub returns-in-Some-clause-working : goal.returns-in-Some-clause-working
returns-in-Some-clause-working g c =
    IsWorking-pop g.start c.args.worker.now c.in-Some.owner c.pop.new.self c.pop.result c.requires c.in-Some.is c.pop.ensures.deck c.pop.ensures.rule
