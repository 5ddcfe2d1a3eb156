use Rattle.std.proofs.Common.{◌≤◌, [], ◌∷◌, unsigned_abs, arith}
use Rattle.std.proofs.lemmas.Grind.{common_steps}
use Rattle.std.proofs.lemmas.List.Elements.{All-append}
use Rattle.std.proofs.lemmas.List.FromFn.{map-range_with_len_more}
use Rattle.limits.specs.declared.TheConstants.{MOST_VOLUME}
use Rattle.row_forms.specs.declared.piece.Piece.{Piece}
use Rattle.slot_rows.specs.Objective.{gain_piece}
use Rattle.slot_rows.proofs.gains.gain_pieces.Goals as goal

pub loop-c-preserved : goal.loop-c-preserved
loop-c-preserved c = record {
  value = rw (
    c.in_ok-push.ensures.items,
    c.gain_piece.ensures.value,
    c.loop-c.invariant.value,
    map-range_with_len_more (gain_piece c.args.plant.now c.args.n) 0 c.loop-c.c c.loop-c.c (omega arith),
  );
  few = grind (arith, common_steps, c.in_ok-push.ensures.items, c.loop-c.invariant.few);
  small = rw c.in_ok-push.ensures.items (All-append (λ (piece : Piece). unsigned_abs piece.factor ≤ MOST_VOLUME)
      c.loop-c.pieces.items (c.gain_piece.result ∷ []) c.loop-c.invariant.small
      (grind (arith, common_steps, c.gain_piece.ensures.small)));
}
