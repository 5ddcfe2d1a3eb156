use Rattle.std.proofs.Common.{◌≡◌}
use Rattle.number_laws.specs.Positive.{positive_part}
use Rattle.blend_cuts.specs.Excess.{rise_of, greatest_below}
use Rattle.blend_cuts.proofs.excess.steepest.Given as goal

abbrev pub invariant-loop-c : goal.invariant-loop-c
invariant-loop-c l = l.most ≡ greatest_below l.c (λ c. positive_part (rise_of l.cut c))
