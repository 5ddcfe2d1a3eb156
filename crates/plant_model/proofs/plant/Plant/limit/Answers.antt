use Rattle.std.proofs.Common.{arith, ap, length}
use Rattle.plant_model.proofs.OpsAreSound.{charge_limits}
use Rattle.plant_model.proofs.plant.Plant.limit.Goals as goal

pub bounds-as_slice-k : goal.bounds-as_slice-k
bounds-as_slice-k c =
    omega (
      arith,
      charge_limits c.args.self.now c.args.v c.operation.result.now c.requires.op
          c.operation.ensures.at c.operation.ensures.sound c.requires.charge,
      ap length c.as_slice.ensures,
    )
