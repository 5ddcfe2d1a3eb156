use Rattle.std.proofs.Common.{◌-◌, ◌≡◌, ◌*◌, ◌^◌, ◌≤◌, unsigned_abs}
use Rattle.number_laws.specs.SignedSums.{total_below}
use Rattle.dual_bound.specs.inside.Systems.{earned_in}
use Rattle.dual_bound.proofs.sums.column_sum.Given as goal

abbrev pub invariant-loop-from : goal.invariant-loop-from
invariant-loop-from l = record {
  there : l.from ≤ l.count;
  value : l.sum ≡ total_below l.from (λ j. earned_in l.system l.multipliers l.q j);
  size : unsigned_abs l.sum ≤ l.from * 2 ^ 104;
}

abbrev pub decreases-loop-from : goal.decreases-loop-from
decreases-loop-from l = l.count - l.from
