use Rattle.crude_run.proofs.MakingLaws.{makes_tried, makes_shown}
use Rattle.crude_run.proofs.make.answer_to.Goals as goal

pub returns-then-solve : goal.returns-then-solve
returns-then-solve c = makes_tried c.args.number c.args.solve c.try_plant.result c.if-solve.true c.try_plant.ensures

pub returns-else-solve : goal.returns-else-solve
returns-else-solve c =
    makes_shown c.args.number c.args.solve c.args.plant.now c.show.result c.if-solve.false c.requires c.show.ensures
