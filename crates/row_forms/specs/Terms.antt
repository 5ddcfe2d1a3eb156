-- The terms of a sum that has a factor for each column, and the row that an inequality of pieces stands for.
use Rattle.std.specs.Prelude.{ℕ, List, [], ◌∷◌, ℤ, pos, if◌then◌else◌}
use Rattle.std.specs.List.{flat_map}
use Rattle.std.specs.Ordering.{int_eq}
use Rattle.linear_form.specs.declared.column.Column.{Column}
use Rattle.linear_form.specs.declared.row.RowTerm.{RowTerm}
use Rattle.linear_form.specs.Rows.{RowForm}
use Rattle.linear_form.specs.Listed.{columns_of}
use Rattle.plant_model.specs.declared.parts.Parts.{Parts}
use Rattle.row_forms.specs.declared.piece.Inequality.{Inequality}
use Rattle.row_forms.specs.declared.piece.Piece.{Piece}
use Rattle.row_forms.specs.Columns.{extent_of}
use Rattle.row_forms.specs.Pieces.{factor_at}

-- the term of a column, and none where its factor is 0
abbrev pub term_of : (Column → ℤ) → Column → List RowTerm
term_of factor column =
    if int_eq (factor column) (pos 0) then [] else record { column = column; factor = factor column } ∷ []

-- the terms of some columns, in their order
abbrev pub terms_over : (Column → ℤ) → List Column → List RowTerm
terms_over factor columns = flat_map (term_of factor) columns

-- those of pieces
abbrev pub piece_terms : Parts → List Piece → List Column → List RowTerm
piece_terms parts pieces columns = terms_over (factor_at parts pieces) columns

-- the terms of the pieces over the forms of n slots
abbrev pub terms_of : Parts → ℕ → List Piece → List RowTerm
terms_of parts n pieces = piece_terms parts pieces (columns_of (extent_of parts n))

-- the row that says of forms of n slots that the pieces are at most the right side
abbrev pub row_of : Parts → ℕ → Inequality → RowForm
row_of parts n inequality = record { terms = terms_of parts n inequality.pieces; right = inequality.right }
