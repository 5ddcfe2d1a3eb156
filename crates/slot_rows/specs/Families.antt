-- What rows on slots and operations say, family by family, as pieces.
use Rattle.std.specs.Prelude.{ℕ, ◌+◌, ◌==◌, if◌then◌else◌, List, [], ◌∷◌, ℤ, pos, neg_ℤ}
use Rattle.plant_model.specs.declared.parts.Parts.{Parts}
use Rattle.plant_model.specs.Parts.{horizon_of, op_of}
use Rattle.row_forms.specs.declared.piece.Which.{Which}
use Rattle.row_forms.specs.declared.piece.Which.TheVariants.{Any, Idle, One, Among}
use Rattle.row_forms.specs.declared.piece.Figure.{Figure}
use Rattle.row_forms.specs.declared.piece.Figure.TheVariants.{Choice, Volume, Start, End}
use Rattle.row_forms.specs.declared.piece.Piece.{Piece}
use Rattle.row_forms.specs.declared.piece.Inequality.{Inequality}
use Rattle.row_forms.specs.Pieces.{piece_of}
use Rattle.slot_rows.specs.declared.families.TheConstants.{RATE_MINUTES}

-- the pieces are at most the number
abbrev pub at_most : List Piece → ℤ → Inequality
at_most pieces right = record { pieces = pieces; right = right }

-- of some entries of one slot
abbrev pub in_slot : ℤ → ℕ → Which → Figure → Piece
in_slot factor slot which figure = piece_of factor slot slot which figure

-- one, and one less than none
abbrev pub plus : ℤ
plus = pos 1

abbrev pub minus : ℤ
minus = neg_ℤ (pos 1)

-- a number below 0
abbrev pub less : ℕ → ℤ
less n = neg_ℤ (pos n)

-- 1, sides 0 and 1: no more than one entry fills a slot, and no fewer
abbrev pub choice_row : ℕ → ℕ → Inequality
choice_row slot side =
    if side == 0 then at_most (in_slot plus slot Any Choice ∷ []) plus else at_most (in_slot minus slot Any Choice ∷ []) minus

-- 2, sides 0 and 1: in a slot an operation draws no more than its upper volume where it fills the slot, and no less
-- than its lower one
abbrev pub volume_row : Parts → ℕ → ℕ → ℕ → Inequality
volume_row parts slot v side =
    let volume = (op_of parts v).volume in
    if side == 0
    then at_most (in_slot plus slot (One v) Volume ∷ in_slot (less volume.1) slot (One v) Choice ∷ []) (pos 0)
    else at_most (in_slot (pos volume.0) slot (One v) Choice ∷ in_slot minus slot (One v) Volume ∷ []) (pos 0)

-- 3, sides 0 and 1: it runs no more slowly than its lower rate, and no faster than its upper one; rates are for so many
-- minutes each
abbrev pub rate_row : Parts → ℕ → ℕ → ℕ → Inequality
rate_row parts slot v side =
    let rate = (op_of parts v).rate in
    if side == 0
    then at_most
    (in_slot (pos rate.0) slot (One v) End
    ∷ in_slot (less rate.0) slot (One v) Start
    ∷ in_slot (less RATE_MINUTES) slot (One v) Volume
    ∷ [])
    (pos 0)
    else at_most
    (in_slot (pos RATE_MINUTES) slot (One v) Volume
    ∷ in_slot (less rate.1) slot (One v) End
    ∷ in_slot (pos rate.1) slot (One v) Start
    ∷ [])
    (pos 0)

-- 4, sides 0, 1 and 2: where it fills the slot it starts no earlier than its window does, ends no later, and takes a
-- minute at least
abbrev pub window_row : Parts → ℕ → ℕ → ℕ → Inequality
window_row parts slot v side =
    let window = (op_of parts v).window in
    if side == 0
    then at_most (in_slot (pos window.0) slot (One v) Choice ∷ in_slot minus slot (One v) Start ∷ []) (pos 0)
    else if side == 1
    then at_most (in_slot plus slot (One v) End ∷ in_slot (less window.1) slot (One v) Choice ∷ []) (pos 0)
    else at_most
    (in_slot plus slot (One v) Start ∷ in_slot minus slot (One v) End ∷ in_slot plus slot (One v) Choice ∷ [])
    (pos 0)

-- 8: where a member of the clique fills slot i and one fills slot j behind it, the second starts no earlier than the
-- first ends. Where none fills slot j, the horizon leaves room for any end
abbrev pub clique_row : Parts → ℕ → ℕ → ℕ → Inequality
clique_row parts clique i j =
    at_most (in_slot plus i (Among clique) End
    ∷ in_slot minus j (Among clique) Start
    ∷ in_slot (pos (horizon_of parts)) j (Among clique) Choice
    ∷ [])
    (pos (horizon_of parts))

-- not x in slot i and y in slot j, both at once
abbrev pub not_both : ℕ → ℕ → ℕ → ℕ → Inequality
not_both i x j y = at_most (in_slot plus i (One x) Choice ∷ in_slot plus j (One y) Choice ∷ []) plus

-- 13: of two that are independent the greater one does not stand right before the other
abbrev pub normal_row : ℕ → ℕ → ℕ → Inequality
normal_row slot x y = not_both slot x (slot + 1) y

-- 14: behind an idle slot the next one is idle
abbrev pub idle_row : ℕ → Inequality
idle_row slot = at_most (in_slot plus slot Idle Choice ∷ in_slot minus (slot + 1) Idle Choice ∷ []) (pos 0)

-- 15: of two vessels of one berth the later one in the list is not unloaded before the other
abbrev pub berth_row : ℕ → ℕ → ℕ → ℕ → Inequality
berth_row i j x y = not_both i x j y
