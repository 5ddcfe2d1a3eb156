-- The dual value: a bound on every point's objective, made of rows by multipliers.
use Rattle.std.specs.Prelude.{ℕ, ◌==◌, if◌then◌else◌, List, [], ℤ, pos, ◌+ℤ◌, ◌-ℤ◌, ◌*ℤ◌, slice_index_or}
use Rattle.std.specs.Int.{int_max}
use Rattle.number_laws.specs.Floors.{floor_of}
use Rattle.number_laws.specs.SignedSums.{total_below, total_by, total_by_pairs}
use Rattle.linear_form.specs.declared.ranges.Interval.{Interval}
use Rattle.linear_form.specs.declared.row.RowTerm.{RowTerm}
use Rattle.linear_form.specs.Bounds.{Bounds, zero_alone}
use Rattle.linear_form.specs.Columns.{Extent, count_of, number_of}
use Rattle.linear_form.specs.Rows.{RowForm}

-- the factor of the column of number j in a term
abbrev pub factor_in : Extent → ℕ → RowTerm → ℤ
factor_in extent j term = if number_of extent term.column == j then term.factor else pos 0

-- and in a sum of terms
abbrev pub factor_of : Extent → ℕ → List RowTerm → ℤ
factor_of extent j terms = total_by (factor_in extent j) terms

-- the rows' factors of a column together, each row by its multiplier
abbrev pub weighed_factor : Extent → List ℕ → List RowForm → ℕ → ℤ
weighed_factor extent multipliers rows j =
    total_by_pairs (λ y row. pos y *ℤ factor_of extent j row.terms) multipliers rows

-- likewise their right sides
abbrev pub weighed_right : List ℕ → List RowForm → ℤ
weighed_right multipliers rows = total_by_pairs (λ y row. pos y *ℤ row.right) multipliers rows

-- what is left of q times the objective's factor of a column once the rows are taken away
abbrev pub weight_of : Extent → List RowForm → List RowTerm → List ℕ → ℕ → ℕ → ℤ
weight_of extent rows objective multipliers q j =
    (pos q *ℤ factor_of extent j objective) -ℤ weighed_factor extent multipliers rows j

-- the most that a weight earns in a range: at one of its ends
abbrev pub most_in : Interval → ℤ → ℤ
most_in range weight = int_max (weight *ℤ range.lo) (weight *ℤ range.hi)

-- the range of the column of number j
abbrev pub range_at : Bounds → ℕ → Interval
range_at bounds j = slice_index_or bounds.ends j zero_alone

-- the right sides, and the most that each column earns
abbrev pub dual_sum : List RowForm → Bounds → List RowTerm → List ℕ → ℕ → ℤ
dual_sum rows bounds objective multipliers q =
    weighed_right multipliers rows
    +ℤ total_below (count_of bounds.extent)
    (λ j. most_in (range_at bounds j) (weight_of bounds.extent rows objective multipliers q j))

-- the dual value: that sum by the denominator, rounded down
abbrev pub dual_value : List RowForm → Bounds → List RowTerm → List ℕ → ℕ → ℤ
dual_value rows bounds objective multipliers q = floor_of (dual_sum rows bounds objective multipliers q) q

-- the sum for no objective at all
abbrev pub emptiness_sum : List RowForm → Bounds → List ℕ → ℤ
emptiness_sum rows bounds multipliers = dual_sum rows bounds [] multipliers 1
