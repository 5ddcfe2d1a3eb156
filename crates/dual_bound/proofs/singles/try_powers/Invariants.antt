use Rattle.std.proofs.Common.{ℕ, ◌^◌, ◌<◌, ◌≤ℤ◌}
use Rattle.dual_bound.specs.Improving.{single}
use Rattle.dual_bound.specs.inside.Steps.{IsKnown, TurnsFrom}
use Rattle.dual_bound.specs.inside.Systems.{row_count, value_in}
use Rattle.dual_bound.proofs.singles.try_powers.Given as goal

abbrev pub invariant-loop-k : goal.invariant-loop-k
invariant-loop-k l = record {
  known : IsKnown l.system l.best;
  before : l.best.value ≤ℤ l.initial.best.value;
  powers : (k : ℕ) → k < l.k → l.best.value ≤ℤ value_in l.system (single (row_count l.system) l.r (2 ^ k)) 1;
  turns : TurnsFrom l.system l.r l.before l.k;
}
