use Rattle.std.proofs.Common.{ℕ, ◌<◌, ◌≤ℤ◌}
use Rattle.dual_bound.specs.Improving.{IsBelowPowers}
use Rattle.dual_bound.specs.inside.Steps.{IsKnown}
use Rattle.dual_bound.proofs.singles.try_singles.Given as goal

abbrev pub invariant-loop-r : goal.invariant-loop-r
invariant-loop-r l = record {
  known : IsKnown l.system l.best;
  before : l.best.value ≤ℤ l.initial.best.value;
  powers : (r : ℕ) → r < l.r → IsBelowPowers l.system.rows.now l.system.ranges.now l.system.objective.now l.best.value r;
}
