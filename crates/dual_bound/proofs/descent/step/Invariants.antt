use Rattle.std.proofs.Common.{◌≤◌, ◌^◌, All}
use Rattle.dual_bound.proofs.descent.step.Given as goal

abbrev pub invariant-loop-r : goal.invariant-loop-r
invariant-loop-r l = All (λ y. y ≤ 2 ^ 32) l.multipliers
