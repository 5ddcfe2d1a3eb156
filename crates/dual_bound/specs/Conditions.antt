-- What is asked of rows, ranges, objectives and guesses, so that no sum leaves 128 bits; and what a bound bounds.
use Rattle.std.specs.Prelude.{◌≡◌, ℕ, ◌*◌, ◌^◌, ◌<◌, ◌≤◌, max, List, length, ℤ, ◌≤ℤ◌, All, unsigned_abs}
use Rattle.limits.specs.declared.TheConstants.{MOST_ROWS, MOST_COLUMNS, MOST_MULTIPLIER}
use Rattle.linear_form.specs.declared.column.Column.{Column}
use Rattle.linear_form.specs.declared.ranges.Interval.{Interval}
use Rattle.linear_form.specs.declared.row.RowTerm.{RowTerm}
use Rattle.linear_form.specs.Bounds.{Bounds, range_of}
use Rattle.linear_form.specs.Columns.{Extent, IsColumn, count_of}
use Rattle.linear_form.specs.Points.{Point, MeetsRows, LiesIn, value_at}
use Rattle.linear_form.specs.Rows.{RowForm, HasEachOnce}
use Rattle.dual_bound.specs.Dual.{dual_value}

-- the greatest absolute end
abbrev pub reach_of : Interval → ℕ
reach_of range = max (unsigned_abs range.lo) (unsigned_abs range.hi)

-- each term is of a column that has a range
abbrev pub AreColumns : Extent → List RowTerm → Type 0
AreColumns extent terms = All (λ term. IsColumn extent term.column) terms

-- and is small over all of it
abbrev pub AreSmall : Bounds → List RowTerm → Type 0
AreSmall bounds terms = All (λ term. unsigned_abs term.factor * reach_of (range_of bounds term.column) < 2 ^ 60) terms

-- rows and ranges whose sums fit
pub record IsSystem (rows : List RowForm) (bounds : Bounds) : Type 0 where
  pub few_rows : length rows ≤ MOST_ROWS
  pub few_columns : count_of bounds.extent ≤ MOST_COLUMNS
  pub ordered : All (λ range. range.lo ≤ℤ range.hi) bounds.ends
  pub columns : All (λ row. AreColumns bounds.extent row.terms) rows
  pub small_factors : All (λ row. AreSmall bounds row.terms) rows
  pub small_rights : All (λ row. unsigned_abs row.right < 2 ^ 60) rows

-- an objective over these ranges
pub record IsObjective (bounds : Bounds) (objective : List RowTerm) : Type 0 where
  pub once : HasEachOnce objective
  pub columns : AreColumns bounds.extent objective
  pub small : AreSmall bounds objective

-- a multiplier for each row, and the denominator
pub record IsGuess (rows : List RowForm) (multipliers : List ℕ) (q : ℕ) : Type 0 where
  pub as_many : length multipliers ≡ length rows
  pub within : All (λ y. y ≤ MOST_MULTIPLIER) multipliers
  pub some : 1 ≤ q
  pub most : q ≤ MOST_MULTIPLIER

-- the number is at least the objective of every point that meets the rows and lies in the ranges
abbrev pub BoundsPoints : List RowForm → Bounds → List RowTerm → ℤ → Type 0
BoundsPoints rows bounds objective bound =
    (point : Point) → MeetsRows rows point → LiesIn bounds point → value_at objective point ≤ℤ bound

-- no point meets the rows and lies in the ranges
abbrev pub HasNoPoint : List RowForm → Bounds → Type 0
HasNoPoint rows bounds = (point : Point) → MeetsRows rows point → LiesIn bounds point → ⊥

-- the inner ranges are of the same columns, and each lies within the outer one
pub record IsWithin (inner outer : Bounds) : Type 0 where
  pub same_columns : inner.extent ≡ outer.extent
  pub inside : (column : Column) → IsColumn outer.extent column →
      ((range_of outer column).lo ≤ℤ (range_of inner column).lo)
      × ((range_of inner column).lo ≤ℤ (range_of inner column).hi)
      × ((range_of inner column).hi ≤ℤ (range_of outer column).hi)

-- narrower ranges have no greater value
abbrev pub BoundsNarrower : List RowForm → Bounds → List RowTerm → List ℕ → ℕ → ℤ → Type 0
BoundsNarrower rows bounds objective multipliers q bound =
    (inner : Bounds) → IsWithin inner bounds → dual_value rows inner objective multipliers q ≤ℤ bound
