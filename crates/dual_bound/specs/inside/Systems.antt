-- The rows, ranges and objective of a call, taken together.
use Rattle.std.specs.Prelude.{ℕ, ℤ, List, length}
use Rattle.dual_bound.specs.declared.system.System.{System}
use Rattle.dual_bound.specs.Conditions.{IsSystem, IsObjective}
use Rattle.dual_bound.specs.Dual.{weight_of, most_in, range_at, dual_sum, dual_value}

-- their sums fit
pub record IsWhole (system : System) : Type 0 where
  pub sums : IsSystem system.rows.now system.ranges.now
  pub objective : IsObjective system.ranges.now system.objective.now

-- how many rows there are
abbrev pub row_count : System → ℕ
row_count system = length system.rows.now

-- and how many columns
abbrev pub column_count : System → ℕ
column_count system = length system.ranges.now.ends

-- the weight of the column of number j
abbrev pub weight_in : System → List ℕ → ℕ → ℕ → ℤ
weight_in system multipliers q j =
    weight_of system.ranges.now.extent system.rows.now system.objective.now multipliers q j

-- the most that this column earns
abbrev pub earned_in : System → List ℕ → ℕ → ℕ → ℤ
earned_in system multipliers q j = most_in (range_at system.ranges.now j) (weight_in system multipliers q j)

-- the right sides, and the most that each column earns
abbrev pub sum_in : System → List ℕ → ℕ → ℤ
sum_in system multipliers q = dual_sum system.rows.now system.ranges.now system.objective.now multipliers q

-- the dual value
abbrev pub value_in : System → List ℕ → ℕ → ℤ
value_in system multipliers q = dual_value system.rows.now system.ranges.now system.objective.now multipliers q
