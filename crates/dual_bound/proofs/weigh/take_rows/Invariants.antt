use Rattle.std.proofs.Common.{◌+◌, take, neg_ℤ, All}
use Rattle.dual_bound.specs.inside.Cells.{Adds, HasSmallFactors}
use Rattle.dual_bound.specs.Dual.{weighed_factor}
use Rattle.dual_bound.proofs.weigh.take_rows.Given as goal

abbrev pub invariant-loop-r : goal.invariant-loop-r
invariant-loop-r l = record {
  added : Adds (λ k. neg_ℤ (weighed_factor l.ranges.extent (take l.r l.multipliers) (take l.r l.rows) (l.from + k))) l.initial.cells l.cells;
  small : All (λ row. HasSmallFactors l.ranges.extent row.terms) (take l.r l.rows);
}
