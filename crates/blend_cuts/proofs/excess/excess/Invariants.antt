use Rattle.std.proofs.Common.{◌≡◌, ◌*◌, ◌≤◌, pos, ◌*ℤ◌, unsigned_abs, slice_index}
use Rattle.limits.specs.declared.TheConstants.{MOST_VOLUME}
use Rattle.number_laws.specs.SignedSums.{total_below}
use Rattle.plant_model.specs.Parts.{initial_amounts_of}
use Rattle.blend_cuts.specs.Excess.{rise_of, most_rise}
use Rattle.blend_cuts.proofs.excess.excess.Given as goal

abbrev pub invariant-loop-c : goal.invariant-loop-c
invariant-loop-c l = record {
  done : l.sum ≡ total_below l.c (λ c. rise_of l.cut c *ℤ pos (slice_index (initial_amounts_of l.plant l.p) c));
  small : unsigned_abs l.sum ≤ l.c * (most_rise * MOST_VOLUME);
}
