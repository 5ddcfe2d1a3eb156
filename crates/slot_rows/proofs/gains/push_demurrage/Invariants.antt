use Rattle.std.proofs.Common.{◌≡◌, ◌+◌, ◌≤◌, ◌++◌, map, length, All, unsigned_abs}
use Rattle.std.specs.List.{range_with_len}
use Rattle.limits.specs.declared.TheConstants.{MOST_CRUDES, MOST_VOLUME}
use Rattle.row_forms.specs.declared.piece.Piece.{Piece}
use Rattle.slot_rows.specs.Objective.{demurrage_piece}
use Rattle.slot_rows.proofs.gains.push_demurrage.Given as goal

abbrev pub invariant-loop-p : goal.invariant-loop-p
invariant-loop-p l = record {
  value : l.pieces.items ≡ l.initial.pieces.items ++ map (demurrage_piece l.plant) (range_with_len 0 l.p);
  few : length l.pieces.items ≤ MOST_CRUDES + l.p;
  small : All (λ (piece : Piece). unsigned_abs piece.factor ≤ MOST_VOLUME) l.pieces.items;
}
