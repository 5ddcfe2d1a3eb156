use Rattle.dual_bound.specs.Conditions.{IsGuess}
use Rattle.fixed_simplex.proofs.rounding.try_all.Given as goal

abbrev pub invariant-loop-miss : goal.invariant-loop-miss
invariant-loop-miss l = IsGuess l.problem.rows.now l.best.guess.y l.best.guess.q
