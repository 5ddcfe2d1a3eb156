use Rattle.tank_rows.proofs.HoldLaws.{tank_rows_hold}
use Rattle.tank_rows.proofs.laws.tank_row_laws.Goals as goal

pub returns : goal.returns
returns c = tank_rows_hold c.args.plant.now c.sound.ensures.plant
