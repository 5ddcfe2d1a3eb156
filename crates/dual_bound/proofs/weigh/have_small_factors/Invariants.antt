use Rattle.std.proofs.Common.{◌^◌, ◌≤◌, take, unsigned_abs, All}
use Rattle.dual_bound.proofs.weigh.have_small_factors.Given as goal

abbrev pub invariant-loop-term : goal.invariant-loop-term
invariant-loop-term l = All (λ term. unsigned_abs term.factor ≤ 2 ^ 63) (take l.term-index l.terms)
