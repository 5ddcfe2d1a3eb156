use Rattle.std.proofs.Common.{◌≡◌, take}
use Rattle.number_laws.specs.SignedSums.{total_by}
use Rattle.dual_bound.specs.inside.Steps.{changes}
use Rattle.dual_bound.proofs.singles.change_by.Given as goal

abbrev pub invariant-loop-term : goal.invariant-loop-term
invariant-loop-term l = l.sum ≡ total_by (changes l.ranges l.weights l.y) (take l.term-index l.terms)
