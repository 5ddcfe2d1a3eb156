use Rattle.std.proofs.Common.{◌≤◌, [], ◌∷◌, unsigned_abs, arith}
use Rattle.std.proofs.lemmas.Grind.{common_steps}
use Rattle.std.proofs.lemmas.List.Elements.{All-append}
use Rattle.std.proofs.lemmas.List.FromFn.{map-range_with_len_more}
use Rattle.limits.specs.declared.TheConstants.{MOST_VOLUME}
use Rattle.row_forms.specs.declared.piece.Piece.{Piece}
use Rattle.tank_rows.specs.Families.{limit_piece}
use Rattle.tank_rows.proofs.families.limit_row.Goals as goal

pub loop-c-preserved : goal.loop-c-preserved
loop-c-preserved c = record {
  value = rw (
    c.in_ok-push.ensures.items,
    c.limit_piece.ensures.value,
    c.loop-c.invariant.value,
    map-range_with_len_more (limit_piece c.args.plant.now c.args.slot c.args.v c.args.k c.args.side) 0 c.loop-c.c c.loop-c.c
        (omega arith),
  );
  few = grind (arith, common_steps, c.in_ok-push.ensures.items, c.loop-c.invariant.few);
  small = rw c.in_ok-push.ensures.items (All-append (λ (piece : Piece). unsigned_abs piece.factor ≤ MOST_VOLUME)
      c.loop-c.pieces.items (c.limit_piece.result ∷ []) c.loop-c.invariant.small
      (grind (arith, common_steps, c.limit_piece.ensures.small)));
}

pub returns-clause-small : goal.returns-clause-small
returns-clause-small c = rw c.at_most.ensures (record {
  pieces = record {
    few = omega (arith, c.loop-c.invariant.few, c.crude_count-c-end.ensures.most);
    small = c.loop-c.invariant.small;
  };
  right = omega arith;
})
