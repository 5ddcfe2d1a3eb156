-- Rows and terms that can be weighed against each other: columns of the plant's forms, each once, and numbers so small
-- that no sum leaves its width.
use Rattle.std.specs.Prelude.{ℕ, ◌*◌, ◌^◌, ◌<◌, List, All, unsigned_abs}
use Rattle.linear_form.specs.declared.row.RowTerm.{RowTerm}
use Rattle.linear_form.specs.Columns.{IsColumn}
use Rattle.linear_form.specs.Rows.{RowForm, HasEachOnce}
use Rattle.plant_model.specs.declared.parts.Parts.{Parts}
use Rattle.row_forms.specs.declared.piece.Inequality.{Inequality}
use Rattle.row_forms.specs.Columns.{extent_of}
use Rattle.row_forms.specs.Sizes.{part_reach, AreFewAndSmall}

-- terms over the forms of n slots: no column twice, and each factor small over all that the column's number may be
pub record AreFitTerms (parts : Parts) (n : ℕ) (terms : List RowTerm) : Type 0 where
  pub once : HasEachOnce terms
  pub columns : All (λ term. IsColumn (extent_of parts n) term.column) terms
  pub small : All (λ term. unsigned_abs term.factor * part_reach term.column.part < 2 ^ 60) terms

-- a row of such terms, with a small right side
pub record IsFitRow (parts : Parts) (n : ℕ) (row : RowForm) : Type 0 where
  pub terms : AreFitTerms parts n row.terms
  pub right : unsigned_abs row.right < 2 ^ 60

-- few pieces with small factors, and a small right side
pub record IsSmall (row : Inequality) : Type 0 where
  pub pieces : AreFewAndSmall row.pieces
  pub right : unsigned_abs row.right < 2 ^ 60
