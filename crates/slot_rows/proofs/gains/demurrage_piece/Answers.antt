use Rattle.std.proofs.Common.{arith}
use Rattle.plant_model.specs.Parts.{place_count_of}
use Rattle.slot_rows.proofs.gains.demurrage_piece.Goals as goal

pub place-requires : goal.place-requires
unfolding place_count_of
place-requires c = omega (arith, c.requires)
