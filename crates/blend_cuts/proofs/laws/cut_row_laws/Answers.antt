use Rattle.blend_cuts.proofs.RowLaws.{cut_rows_hold}
use Rattle.blend_cuts.proofs.laws.cut_row_laws.Goals as goal

pub returns : goal.returns
returns c = cut_rows_hold c.args.plant.now c.sound.ensures.plant
