use Rattle.std.proofs.Common.{◌≤◌, ◌^◌, ◌+◌, ◌*ℤ◌, pos, neg_ℤ, get_or, subst, List, unsigned_abs, arith}
use Rattle.std.proofs.lemmas.List.Elements.{All-more}
use Rattle.linear_form.specs.declared.row.RowTerm.{RowTerm}
use Rattle.linear_form.specs.Rows.{RowForm}
use Rattle.dual_bound.specs.inside.Cells.{Adds, HasSmallFactors}
use Rattle.dual_bound.specs.Dual.{factor_of}
use Rattle.dual_bound.proofs.CellLaws.{rows-more}
use Rattle.dual_bound.proofs.FactorLaws.{rows-within}
use Rattle.dual_bound.proofs.weigh.take_rows.Goals as goal

pub take_row-requires-clause-room : goal.take_row-requires-clause-room
take_row-requires-clause-room c =
    rows-within c.args.ranges.now.extent c.args.from c.loop-r.r c.args.multipliers.now c.args.rows.now c.args.cells.now c.loop-r.cells
    c.requires.within (omega (arith, c.requires.few)) (omega arith) c.loop-r.invariant.small c.requires.room c.loop-r.invariant.added

pub loop-r-preserved : goal.loop-r-preserved
loop-r-preserved c =
    let raw : Adds (λ k. neg_ℤ (pos (get_or c.args.multipliers.now c.loop-r.r 0)) *ℤ factor_of c.args.ranges.now.extent (c.args.from + k) c.terms.result.now)
    c.loop-r.cells c.take_row.new.cells = c.take_row.ensures.added in
    let step = subst (λ (terms : List RowTerm). Adds
    (λ k. neg_ℤ (pos (get_or c.args.multipliers.now c.loop-r.r 0)) *ℤ factor_of c.args.ranges.now.extent (c.args.from + k) terms) c.loop-r.cells
    c.take_row.new.cells) c.terms.ensures.value raw in
    record {
      added = rows-more c.args.ranges.now.extent c.args.multipliers.now c.args.rows.now c.args.from c.loop-r.r c.index-rows-r.result c.args.cells.now
          c.loop-r.cells c.take_row.new.cells
          (omega (arith, c.requires.as_many)) c.loop-r-test.true c.index-rows-r.is c.loop-r.invariant.added step;
      small = All-more (λ (row : RowForm). HasSmallFactors c.args.ranges.now.extent row.terms) c.args.rows.now c.loop-r.r c.index-rows-r.result
          c.loop-r-test.true c.loop-r.invariant.small
          (λ j. let here : unsigned_abs (factor_of c.args.ranges.now.extent j c.terms.result.now) ≤ 2 ^ 63 = c.take_row.ensures.small j in
          rw (← c.index-rows-r.is, ← c.terms.ensures.value) here);
    }

pub returns-clause-within : goal.returns-clause-within
returns-clause-within c =
    rows-within c.args.ranges.now.extent c.args.from c.loop-r.r c.args.multipliers.now c.args.rows.now c.args.cells.now c.loop-r.cells
    c.requires.within (omega (arith, c.requires.few)) (omega arith) c.loop-r.invariant.small c.requires.room c.loop-r.invariant.added
