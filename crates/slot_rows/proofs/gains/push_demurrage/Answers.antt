use Rattle.std.proofs.Common.{◌≤◌, [], ◌∷◌, append_assoc, unsigned_abs, arith}
use Rattle.std.proofs.lemmas.Grind.{common_steps}
use Rattle.std.proofs.lemmas.List.Elements.{All-append}
use Rattle.std.proofs.lemmas.List.FromFn.{map-range_with_len_more}
use Rattle.limits.specs.declared.TheConstants.{MOST_VOLUME}
use Rattle.row_forms.specs.declared.piece.Piece.{Piece}
use Rattle.slot_rows.specs.Objective.{demurrage_piece}
use Rattle.slot_rows.proofs.gains.push_demurrage.Goals as goal

pub loop-p-preserved : goal.loop-p-preserved
loop-p-preserved c = record {
  value = rw (
    c.in_ok-push.ensures.items,
    c.demurrage_piece.ensures.value,
    c.loop-p.invariant.value,
    map-range_with_len_more (demurrage_piece c.args.plant.now) 0 c.loop-p.p c.loop-p.p (omega arith),
    append_assoc,
  );
  few = grind (arith, common_steps, c.in_ok-push.ensures.items, c.loop-p.invariant.few);
  small = rw c.in_ok-push.ensures.items (All-append (λ (piece : Piece). unsigned_abs piece.factor ≤ MOST_VOLUME)
      c.loop-p.pieces.items (c.demurrage_piece.result ∷ []) c.loop-p.invariant.small
      (grind (arith, common_steps, c.demurrage_piece.ensures.small)));
}
