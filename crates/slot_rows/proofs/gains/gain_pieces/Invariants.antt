use Rattle.std.proofs.Common.{◌≡◌, ◌≤◌, map, length, All, unsigned_abs}
use Rattle.std.specs.List.{range_with_len}
use Rattle.limits.specs.declared.TheConstants.{MOST_VOLUME}
use Rattle.row_forms.specs.declared.piece.Piece.{Piece}
use Rattle.slot_rows.specs.Objective.{gain_piece}
use Rattle.slot_rows.proofs.gains.gain_pieces.Given as goal

abbrev pub invariant-loop-c : goal.invariant-loop-c
invariant-loop-c l = record {
  value : l.pieces.items ≡ map (gain_piece l.plant l.n) (range_with_len 0 l.c);
  few : length l.pieces.items ≤ l.c;
  small : All (λ (piece : Piece). unsigned_abs piece.factor ≤ MOST_VOLUME) l.pieces.items;
}
