-- The rows of a cut: what an operation draws from the set exceeds the threshold by no more than the set did at first
-- and the draws so far may have added by rounding; unless an earlier operation has brought crude into the set.
use Rattle.std.specs.Prelude.{ℕ, ◌+◌, ◌-◌, ◌*◌, Bool, ◌&&◌, not, nat_lt, nat_le, if◌then◌else◌, Option, None, Some, List, [], ◌∷◌, ◌++◌, map, pos, neg_ℤ}
use Rattle.std.specs.List.{range_with_len}
use Rattle.linear_form.specs.Rows.{RowForm}
use Rattle.overlap_graph.specs.Sets.{set_of}
use Rattle.plant_model.specs.declared.parts.Parts.{Parts}
use Rattle.plant_model.specs.Parts.{crude_count_of, op_count_of, op_of}
use Rattle.row_forms.specs.declared.piece.Figure.TheVariants.{Choice, Amount}
use Rattle.row_forms.specs.declared.piece.Inequality.{Inequality}
use Rattle.row_forms.specs.declared.piece.Piece.{Piece}
use Rattle.row_forms.specs.declared.piece.Which.TheVariants.{One, Among}
use Rattle.row_forms.specs.Pieces.{piece_of}
use Rattle.row_forms.specs.Terms.{row_of}
use Rattle.slot_box.specs.declared.cut.CutParams.{CutParams}
use Rattle.blend_cuts.specs.Cuts.{is_inside, is_valid}
use Rattle.blend_cuts.specs.Excess.{rise_of, first_excess_of, drift_of, most_excess_of}

-- what the operation draws of crude c in the slot, by how much a unit of it exceeds the threshold
abbrev pub drawn_piece : CutParams → ℕ → ℕ → ℕ → Piece
drawn_piece cut slot v c = piece_of (rise_of cut c) slot slot (One v) (Amount c)

abbrev pub drawn_pieces : Parts → CutParams → ℕ → ℕ → List Piece
drawn_pieces parts cut slot v = map (drawn_piece cut slot v) (range_with_len 0 (crude_count_of parts))

-- what the set exceeds the threshold by at first, and one drift for each draw up to the slot, this one too
abbrev pub allowance_of : Parts → CutParams → ℕ → ℕ
allowance_of parts cut slot = first_excess_of parts cut + slot * drift_of parts cut

-- it is taken off where the operation stands in the slot
abbrev pub allowed_piece : Parts → CutParams → ℕ → ℕ → Piece
allowed_piece parts cut slot v = piece_of (neg_ℤ (pos (allowance_of parts cut slot))) slot slot (One v) Choice

-- the operation goes from outside into the set
abbrev pub brings : Parts → CutParams → ℕ → Bool
brings parts cut u = not (is_inside cut (op_of parts u).from) && is_inside cut (op_of parts u).to

-- the operations that do
unfoldable pub bringing_of : Parts → CutParams → ℕ
bringing_of parts cut = set_of (op_count_of parts) (brings parts cut)

-- for each of them in an earlier slot, so much is taken off that the row says nothing more
abbrev pub brought_piece : Parts → CutParams → ℕ → ℕ → Piece
brought_piece parts cut slot v =
    piece_of (neg_ℤ (pos (most_excess_of parts cut v))) 1 (slot - 1) (Among (bringing_of parts cut)) Choice

-- in all it is not above 0
abbrev pub cut_inequality : Parts → CutParams → ℕ → ℕ → Inequality
cut_inequality parts cut slot v =
    record {
      pieces = drawn_pieces parts cut slot v ++ allowed_piece parts cut slot v ∷ brought_piece parts cut slot v ∷ [];
      right = pos 0;
    }

-- the cut is valid, and it has a row for the slot and the operation: the forms have the slot, the plant the
-- operation, and the operation draws from the set
unfoldable pub has_row : Parts → ℕ → CutParams → ℕ → ℕ → Bool
has_row parts n cut slot v =
    is_valid parts cut && (nat_lt 0 slot && nat_le slot n) && nat_lt v (op_count_of parts)
    && is_inside cut (op_of parts v).from

-- that row, and none where there is none
abbrev pub cut_row_of : Parts → ℕ → CutParams → ℕ → ℕ → Option RowForm
cut_row_of parts n cut slot v =
    if has_row parts n cut slot v then Some (row_of parts n (cut_inequality parts cut slot v)) else None
