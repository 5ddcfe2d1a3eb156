use Rattle.std.proofs.Common.{◌≡◌, map}
use Rattle.std.specs.List.{range_with_len}
use Rattle.blend_cuts.specs.CutRows.{drawn_piece}
use Rattle.blend_cuts.proofs.rows.drawn_pieces.Given as goal

abbrev pub invariant-loop-c : goal.invariant-loop-c
invariant-loop-c l = l.pieces.items ≡ map (drawn_piece l.cut l.slot l.op) (range_with_len 0 l.c)
