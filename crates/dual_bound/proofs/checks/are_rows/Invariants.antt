use Rattle.std.proofs.Common.{take, All, ◌<◌, ◌^◌, unsigned_abs}
use Rattle.dual_bound.specs.Conditions.{AreColumns, AreSmall}
use Rattle.dual_bound.proofs.checks.are_rows.Given as goal

abbrev pub invariant-loop-r : goal.invariant-loop-r
invariant-loop-r l = record {
  columns : All (λ row. AreColumns l.ranges.extent row.terms) (take l.r l.rows);
  small : All (λ row. AreSmall l.ranges row.terms) (take l.r l.rows);
  rights : All (λ row. unsigned_abs row.right < 2 ^ 60) (take l.r l.rows);
}
