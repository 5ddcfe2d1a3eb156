use Rattle.std.proofs.Common.{◌≡◌, ◌≤◌, take, sum_by, unsigned_abs}
use Rattle.row_forms.specs.Pieces.{factor_at}
use Rattle.row_forms.specs.Sizes.{piece_reach}
use Rattle.row_forms.proofs.factors.factor_at.Given as goal

abbrev pub invariant-loop-piece : goal.invariant-loop-piece
invariant-loop-piece l = record {
  value : l.factor ≡ factor_at l.plant (take l.piece-index l.pieces) l.column;
  size : unsigned_abs l.factor ≤ sum_by piece_reach (take l.piece-index l.pieces);
}
