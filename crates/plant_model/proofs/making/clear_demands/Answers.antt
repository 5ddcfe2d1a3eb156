use Rattle.plant_model.specs.Parts.{without_demand}
use Rattle.plant_model.proofs.TankLists.{walk_more, walk_end}
use Rattle.plant_model.proofs.making.clear_demands.Goals as goal

pub loop-tank-preserved : goal.loop-tank-preserved
loop-tank-preserved c =
    walk_more without_demand c.args.tanks.now c.loop-tank.tanks c.loop-tank.tank-index c.tank-item.result c.loop-tank-test.true c.loop-tank.invariant

pub returns : goal.returns
returns c = walk_end without_demand c.args.tanks.now c.loop-tank.tanks c.loop-tank.tank-index c.loop-tank-test.false c.loop-tank.invariant
