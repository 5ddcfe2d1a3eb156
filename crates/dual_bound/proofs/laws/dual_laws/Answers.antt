use Rattle.dual_bound.proofs.LeastLaws.{low_values-are_contradictions, points-are_above}
use Rattle.dual_bound.proofs.laws.dual_laws.Goals as goal

pub returns : goal.returns
returns c = record { low = low_values-are_contradictions; points = points-are_above }
