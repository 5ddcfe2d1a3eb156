use Rattle.crude_run.proofs.MakingLaws.{trial_points-counted}
use Rattle.crude_run.proofs.make.trial_points.Goals as goal

pub returns : goal.returns
returns c =
    trial_points-counted c.args.plant.now c.in_ok-root.root c.points.result c.in_ok-root.ensures.value c.in_ok-root.ensures.shape c.points.ensures.value
