use Rattle.std.proofs.Common.{take, All, ◌≤ℤ◌}
use Rattle.dual_bound.proofs.checks.are_ordered.Given as goal

abbrev pub invariant-loop-range : goal.invariant-loop-range
invariant-loop-range l = All (λ range. range.lo ≤ℤ range.hi) (take l.range-index l.ends)
