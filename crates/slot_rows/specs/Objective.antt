-- The objective of slot forms: each charge earns by the margins of the crudes that it draws, and each vessel pays for
-- its waiting.
use Rattle.std.specs.Prelude.{ℕ, List, ◌++◌, map, length, pos, neg_ℤ}
use Rattle.std.specs.List.{range_with_len}
use Rattle.linear_form.specs.declared.row.RowTerm.{RowTerm}
use Rattle.plant_model.specs.declared.parts.Parts.{Parts}
use Rattle.plant_model.specs.Parts.{crude_count_of, margin_of, place_of}
use Rattle.row_forms.specs.declared.piece.Which.TheVariants.{Charges}
use Rattle.row_forms.specs.declared.piece.Figure.TheVariants.{Amount}
use Rattle.row_forms.specs.declared.piece.Piece.{Piece}
use Rattle.row_forms.specs.Pieces.{piece_of, wait_piece}
use Rattle.row_forms.specs.Terms.{terms_of}

-- what all charges draw of a crude, by its margin
abbrev pub gain_piece : Parts → ℕ → ℕ → Piece
gain_piece parts n c = piece_of (margin_of parts c) 1 n Charges (Amount c)

-- less what a vessel pays for its waiting
abbrev pub demurrage_piece : Parts → ℕ → Piece
demurrage_piece parts p = wait_piece (neg_ℤ (pos (place_of parts p).demurrage)) p

-- crude by crude, and then vessel by vessel
abbrev pub gain_pieces : Parts → ℕ → List Piece
gain_pieces parts n = map (gain_piece parts n) (range_with_len 0 (crude_count_of parts))

abbrev pub demurrage_pieces : Parts → List Piece
demurrage_pieces parts = map (demurrage_piece parts) (range_with_len 0 (length parts.vessels))

-- the objective over forms of n slots
unfoldable pub objective_of : Parts → ℕ → List RowTerm
objective_of parts n = terms_of parts n (gain_pieces parts n ++ demurrage_pieces parts)
