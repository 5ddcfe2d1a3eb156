use Rattle.std.proofs.Common.{take, All, ◌≤◌, ◌^◌}
use Rattle.dual_bound.proofs.checks.are_multipliers.Given as goal

abbrev pub invariant-loop-y : goal.invariant-loop-y
invariant-loop-y l = All (λ y. y ≤ 2 ^ 32) (take l.y-index l.multipliers)
