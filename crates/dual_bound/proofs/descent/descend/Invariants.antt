use Rattle.std.proofs.Common.{◌≤◌, ◌^◌, ◌≤ℤ◌, All}
use Rattle.dual_bound.specs.inside.Steps.{IsKnown}
use Rattle.dual_bound.proofs.descent.descend.Given as goal

abbrev pub invariant-loop-round : goal.invariant-loop-round
invariant-loop-round l = record {
  known : IsKnown l.system l.best;
  before : l.best.value ≤ℤ l.initial.best.value;
  within : All (λ y. y ≤ 2 ^ 32) l.multipliers;
}
