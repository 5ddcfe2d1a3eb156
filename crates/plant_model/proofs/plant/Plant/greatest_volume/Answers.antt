use Rattle.std.proofs.Common.{length, ap, sym, ◌∙◌}
use Rattle.plant_model.proofs.GreatestVolume.{greatest_volume-le}
use Rattle.plant_model.proofs.plant.Plant.greatest_volume.Goals as goal

pub returns-clause-most : goal.returns-clause-most
returns-clause-most c =
    rw (c.greatest_of.ensures, c.ops.ensures.value)
    (greatest_volume-le c.args.self.now (ap length (sym c.ops.ensures.value) ∙ c.ops.ensures.count) c.ops.ensures.sound)
