use Rattle.crude_run.proofs.MakingLaws.{tries_plant}
use Rattle.crude_run.proofs.make.try_plant.Goals as goal

pub returns : goal.returns
returns c =
    tries_plant c.args.number c.args.plant.now c.in_ok-claim.claim c.tried.result c.requires c.in_ok-claim.ensures c.tried.ensures
