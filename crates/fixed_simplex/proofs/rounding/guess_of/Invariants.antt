use Rattle.std.proofs.Common.{◌≡◌, ◌≤◌, All, vec_len}
use Rattle.limits.specs.declared.TheConstants.{MOST_MULTIPLIER}
use Rattle.fixed_simplex.proofs.rounding.guess_of.Given as goal

abbrev pub invariant-loop-number : goal.invariant-loop-number
invariant-loop-number l = (vec_len l.y ≡ l.number-index) × All (λ y. y ≤ MOST_MULTIPLIER) l.y.items
