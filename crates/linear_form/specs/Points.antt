-- Points of whole numbers: what a sum is at a point, and when a point meets rows and ranges.
use Rattle.std.specs.Prelude.{List, ℤ, ◌*ℤ◌, ◌≤ℤ◌, All}
use Rattle.number_laws.specs.SignedSums.{total_by}
use Rattle.linear_form.specs.declared.column.Column.{Column}
use Rattle.linear_form.specs.declared.row.RowTerm.{RowTerm}
use Rattle.linear_form.specs.Bounds.{Bounds, range_of}
use Rattle.linear_form.specs.Columns.{IsColumn}
use Rattle.linear_form.specs.Rows.{RowForm}

-- a whole number for each column
abbrev pub Point : Type 0
Point = Column → ℤ

-- what a term adds at a point
abbrev pub term_at : Point → RowTerm → ℤ
term_at point term = term.factor *ℤ point term.column

-- what the terms come to together
abbrev pub value_at : List RowTerm → Point → ℤ
value_at terms point = total_by (term_at point) terms

-- the row holds
abbrev pub IsMet : Point → RowForm → Type 0
IsMet point row = value_at row.terms point ≤ℤ row.right

-- each row holds
abbrev pub MeetsRows : List RowForm → Point → Type 0
MeetsRows rows point = All (IsMet point) rows

-- each column's number lies in its range
abbrev pub LiesIn : Bounds → Point → Type 0
LiesIn bounds point =
    (column : Column) → IsColumn bounds.extent column →
    ((range_of bounds column).lo ≤ℤ point column) × (point column ≤ℤ (range_of bounds column).hi)
