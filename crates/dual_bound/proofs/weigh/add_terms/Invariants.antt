use Rattle.std.proofs.Common.{◌+◌, ◌^◌, ◌≤◌, ◌*ℤ◌, take, unsigned_abs, All}
use Rattle.dual_bound.specs.inside.Cells.{Adds}
use Rattle.dual_bound.specs.Dual.{factor_of}
use Rattle.dual_bound.proofs.weigh.add_terms.Given as goal

abbrev pub invariant-loop-term : goal.invariant-loop-term
invariant-loop-term l = record {
  added : Adds (λ k. l.fn.times *ℤ factor_of l.ranges.extent (l.from + k) (take l.term-index l.terms)) l.initial.cells l.cells;
  fits : All (λ term. unsigned_abs term.factor ≤ 2 ^ 63) (take l.term-index l.terms);
}
