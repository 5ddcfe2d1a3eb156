-- Rows: sums of columns, each taken with a factor, that are at most a right side.
use Rattle.std.specs.Prelude.{◌≢◌, List, [], ◌∷◌, ℤ, All}
use Rattle.linear_form.specs.declared.row.RowTerm.{RowTerm}

-- a row: the sum of its terms is at most the right side
pub record RowForm : Type 0 where
  pub terms : List RowTerm
  pub right : ℤ

-- no column stands twice
abbrev pub HasEachOnce : List RowTerm → Type 0
HasEachOnce [] = Unit {0}
HasEachOnce (term ∷ terms) = All (λ other. other.column ≢ term.column) terms × HasEachOnce terms
