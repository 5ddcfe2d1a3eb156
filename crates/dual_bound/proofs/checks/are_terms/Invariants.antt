use Rattle.std.proofs.Common.{take}
use Rattle.dual_bound.specs.Conditions.{AreColumns, AreSmall}
use Rattle.dual_bound.proofs.checks.are_terms.Given as goal

abbrev pub invariant-loop-term : goal.invariant-loop-term
invariant-loop-term l = record {
  columns : AreColumns l.ranges.extent (take l.term-index l.terms);
  small : AreSmall l.ranges (take l.term-index l.terms);
}
