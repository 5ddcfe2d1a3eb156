-- What rows on places and crudes say, family by family, as pieces.
use Rattle.std.specs.Prelude.{ℕ, ◌==◌, if◌then◌else◌, List, [], ◌∷◌, map, sum, ℤ, pos, ◌-ℤ◌, neg_ℤ}
use Rattle.std.specs.List.{range_with_len}
use Rattle.plant_model.specs.declared.parts.Parts.{Parts}
use Rattle.plant_model.specs.Parts.{horizon_of, place_of, crude_count_of, property_of, limit_of, initial_of, initial_amounts_of}
use Rattle.row_forms.specs.declared.piece.Which.TheVariants.{One, From, Into}
use Rattle.row_forms.specs.declared.piece.Figure.{Figure}
use Rattle.row_forms.specs.declared.piece.Figure.TheVariants.{Choice, Volume, Amount, Start, End}
use Rattle.row_forms.specs.declared.piece.Piece.{Piece}
use Rattle.row_forms.specs.declared.piece.Inequality.{Inequality}
use Rattle.row_forms.specs.Pieces.{piece_of, wait_piece}

-- the pieces are at most the number
abbrev pub at_most : List Piece → ℤ → Inequality
at_most pieces right = record { pieces = pieces; right = right }

-- over the slots from 1 to one of them, of the operations from a place or to it
abbrev pub from_place : ℤ → ℕ → ℕ → Figure → Piece
from_place factor p last figure = piece_of factor 1 last (From p) figure

abbrev pub into_place : ℤ → ℕ → ℕ → Figure → Piece
into_place factor p last figure = piece_of factor 1 last (Into p) figure

-- one, and one less than none
abbrev pub plus : ℤ
plus = pos 1

abbrev pub minus : ℤ
minus = neg_ℤ (pos 1)

-- what is summed up lies within a range: side 0 has the upper end, and side 1 the lower one
abbrev pub range_row : (ℤ → Piece) → ℕ × ℕ → ℕ → Inequality
range_row piece range side =
    if side == 0 then at_most (piece plus ∷ []) (pos range.1) else at_most (piece minus ∷ []) (neg_ℤ (pos range.0))

-- what the place holds at first
abbrev pub total_of : Parts → ℕ → ℤ
total_of parts p = pos (sum (initial_amounts_of parts p))

-- 5, sides 0 and 1: up to a slot no more goes out than comes in and lies above the minimum at first; no more comes in
-- than goes out and has room below the maximum at first
abbrev pub total_row : Parts → ℕ → ℕ → ℕ → Inequality
total_row parts p slot side =
    if side == 0
    then at_most (from_place plus p slot Volume ∷ into_place minus p slot Volume ∷ [])
    (total_of parts p -ℤ pos (place_of parts p).min)
    else at_most (into_place plus p slot Volume ∷ from_place minus p slot Volume ∷ [])
    (pos (place_of parts p).max -ℤ total_of parts p)

-- 6: up to a slot no more of a crude goes out than comes in and is there at first
abbrev pub amount_row : Parts → ℕ → ℕ → ℕ → Inequality
amount_row parts p slot c =
    at_most (from_place plus p slot (Amount c) ∷ into_place minus p slot (Amount c) ∷ []) (pos (initial_of parts p c))

-- 7, sides 0 and 1: how far property k of crude c lies above the high limit of a charge, or below the low one
abbrev pub excess_of : Parts → ℕ × ℕ → ℕ → ℕ → ℕ → ℤ
excess_of parts limit k side c =
    if side == 0 then pos (property_of parts c k) -ℤ pos limit.1 else pos limit.0 -ℤ pos (property_of parts c k)

-- that, times what the charge draws of the crude
abbrev pub limit_piece : Parts → ℕ → ℕ → ℕ → ℕ → ℕ → Piece
limit_piece parts slot v k side c =
    piece_of (excess_of parts (limit_of parts v k) k side c) slot slot (One v) (Amount c)

-- in all it is not above 0
abbrev pub limit_row : Parts → ℕ → ℕ → ℕ → ℕ → Inequality
limit_row parts slot v k side =
    at_most (map (limit_piece parts slot v k side) (range_with_len 0 (crude_count_of parts))) (pos 0)

-- 9, sides 0 and 1: over all slots a charging tank gives no more than is demanded at most, and no less than at least
abbrev pub demand_row : Parts → ℕ → ℕ → ℕ → Inequality
demand_row parts n p side = range_row (λ factor. from_place factor p n Volume) (place_of parts p).demand side

-- 10: over all slots a vessel gives of a crude no less than it has at first
abbrev pub emptied_row : Parts → ℕ → ℕ → ℕ → Inequality
emptied_row parts n p c = at_most (from_place minus p n (Amount c) ∷ []) (neg_ℤ (pos (initial_of parts p c)))

-- 11, sides 0 and 1: a continuous unit is charged for no more minutes than the horizon has, and for no fewer
abbrev pub minutes_row : Parts → ℕ → ℕ → ℕ → Inequality
minutes_row parts n p side =
    if side == 0
    then at_most (into_place plus p n End ∷ into_place minus p n Start ∷ []) (pos (horizon_of parts))
    else at_most (into_place plus p n Start ∷ into_place minus p n End ∷ []) (neg_ℤ (pos (horizon_of parts)))

-- 12, sides 0 and 1: a unit gets no more charges than it takes at most, and no fewer than at least
abbrev pub charges_row : Parts → ℕ → ℕ → ℕ → Inequality
charges_row parts n p side = range_row (λ factor. into_place factor p n Choice) (place_of parts p).charges side

-- 16: in each slot a vessel waits no less than until the end of the unloading that fills the slot
abbrev pub wait_row : Parts → ℕ → ℕ → Inequality
wait_row parts p slot =
    at_most (piece_of plus slot slot (From p) End
    ∷ piece_of (neg_ℤ (pos (place_of parts p).arrival)) slot slot (From p) Choice
    ∷ wait_piece minus p ∷ [])
    (pos 0)
