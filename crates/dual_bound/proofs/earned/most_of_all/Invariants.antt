use Rattle.std.proofs.Common.{◌≡◌, pos, slice_index_or}
use Rattle.linear_form.specs.Bounds.{zero_alone}
use Rattle.number_laws.specs.SignedSums.{total_below}
use Rattle.dual_bound.specs.Dual.{most_in}
use Rattle.dual_bound.proofs.earned.most_of_all.Given as goal

abbrev pub invariant-loop-k : goal.invariant-loop-k
invariant-loop-k l = l.sum ≡ total_below l.k (λ i. most_in (slice_index_or l.ranges i zero_alone) (slice_index_or l.weights i (pos 0)))
