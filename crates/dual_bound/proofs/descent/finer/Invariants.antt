use Rattle.std.proofs.Common.{◌≤◌, ◌^◌, take, All}
use Rattle.dual_bound.proofs.descent.finer.Given as goal

abbrev pub invariant-loop-y : goal.invariant-loop-y
invariant-loop-y l = record {
  q : l.q ≤ l.greatest;
  most : l.greatest ≤ 2 ^ 32;
  each : All (λ y. y ≤ l.greatest) (take l.y-index l.multipliers);
}
