-- The rows, ranges and objective of a call, taken together.
use Rattle.fixed_simplex.specs.declared.problem.Problem.{Problem}
use Rattle.dual_bound.specs.Conditions.{IsSystem, IsObjective}

-- their sums fit
pub record IsWhole (problem : Problem) : Type 0 where
  pub sums : IsSystem problem.rows.now problem.ranges.now
  pub objective : IsObjective problem.ranges.now problem.objective.now
