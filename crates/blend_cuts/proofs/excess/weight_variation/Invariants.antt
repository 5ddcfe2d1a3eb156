use Rattle.std.proofs.Common.{◌≡◌, ◌+◌, ◌*◌, ◌≤◌, ◌-ℤ◌, unsigned_abs}
use Rattle.limits.specs.declared.TheConstants.{MOST_CUT_WEIGHT}
use Rattle.number_laws.specs.Sums.{sum_below}
use Rattle.blend_cuts.specs.Cuts.{weight_of}
use Rattle.blend_cuts.proofs.excess.weight_variation.Given as goal

abbrev pub invariant-loop-c : goal.invariant-loop-c
invariant-loop-c l = record {
  done : l.sum ≡ sum_below l.c (λ c. unsigned_abs (weight_of l.cut (c + 1) -ℤ weight_of l.cut c));
  most : l.sum ≤ l.c * (2 * MOST_CUT_WEIGHT);
}
