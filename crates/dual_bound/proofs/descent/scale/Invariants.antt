use Rattle.std.proofs.Common.{◌≤◌, ◌<◌, ◌*◌, ◌^◌, ℕ, length, slice_index}
use Rattle.dual_bound.proofs.descent.scale.Given as goal

abbrev pub invariant-loop-y : goal.invariant-loop-y
invariant-loop-y l = record {
  done : (k : ℕ) → k < l.y-index → slice_index l.multipliers k ≤ 2 ^ 32;
  left : (k : ℕ) → l.y-index ≤ k → k < length l.multipliers → slice_index l.multipliers k * l.times ≤ 2 ^ 32;
}
