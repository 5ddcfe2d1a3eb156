use Rattle.std.proofs.Common.{◌≡◌, ◌*◌, ◌≤◌}
use Rattle.limits.specs.declared.TheConstants.{MOST_VOLUME}
use Rattle.number_laws.specs.Sums.{sum_below}
use Rattle.blend_cuts.specs.Excess.{place_excess_of, most_rise}
use Rattle.blend_cuts.proofs.excess.first_excess.Given as goal

abbrev pub invariant-loop-p : goal.invariant-loop-p
invariant-loop-p l = record {
  done : l.sum ≡ sum_below l.p (place_excess_of l.plant l.cut);
  most : l.sum ≤ l.p * (most_rise * MOST_VOLUME);
}
