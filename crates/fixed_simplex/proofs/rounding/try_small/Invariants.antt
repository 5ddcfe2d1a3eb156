use Rattle.dual_bound.specs.Conditions.{IsGuess}
use Rattle.fixed_simplex.proofs.rounding.try_small.Given as goal

abbrev pub invariant-loop-q : goal.invariant-loop-q
invariant-loop-q l = IsGuess l.problem.rows.now l.best.guess.y l.best.guess.q
