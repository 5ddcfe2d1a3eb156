use Rattle.std.proofs.Common.{arith}
use Rattle.std.proofs.lemmas.List.FromFn.{map-range_with_len_more}
use Rattle.blend_cuts.specs.CutRows.{drawn_piece}
use Rattle.blend_cuts.proofs.rows.drawn_pieces.Goals as goal

pub loop-c-preserved : goal.loop-c-preserved
loop-c-preserved c = rw (
  c.in_ok-push.ensures.items,
  c.drawn_piece.ensures,
  c.loop-c.invariant,
  map-range_with_len_more (drawn_piece c.args.cut.now c.args.slot c.args.op) 0 c.loop-c.c c.loop-c.c (omega arith),
)
