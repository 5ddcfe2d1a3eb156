use Rattle.std.proofs.Common.{◌≡◌, ◌*◌, ◌^◌, ◌≤◌, take, unsigned_abs, All}
use Rattle.linear_form.specs.Rows.{HasEachOnce}
use Rattle.dual_bound.specs.Dual.{weighed_right}
use Rattle.dual_bound.proofs.sums.right_sum.Given as goal

abbrev pub invariant-loop-r : goal.invariant-loop-r
invariant-loop-r l = record {
  value : l.sum ≡ weighed_right (take l.r l.multipliers) (take l.r l.rows);
  size : unsigned_abs l.sum ≤ l.r * 2 ^ 95;
  once : All (λ row. HasEachOnce row.terms) (take l.r l.rows);
}
