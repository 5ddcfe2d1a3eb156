-- What figures and pieces come to at the numbers of a form.
use Rattle.std.specs.Prelude.{ℕ, Bool, ⊤, ◌+◌, ◌<◌, ◌&&◌, nat_lt, if◌then◌else◌, List, length, sum, slice_index, ℤ, pos, ◌*ℤ◌}
use Rattle.number_laws.specs.SignedSums.{total_by}
use Rattle.number_laws.specs.Sums.{sum_below, when}
use Rattle.linear_form.specs.declared.column.TheConstants.{IDLE_ENTRY}
use Rattle.linear_form.specs.declared.column.Part.TheVariants.{Z}
use Rattle.linear_form.specs.Listed.{vessel_column}
use Rattle.plant_model.specs.declared.parts.Parts.{Parts}
use Rattle.plant_model.specs.Parts.{op_count_of}
use Rattle.replay_core.specs.declared.timed.Timed.{Timed}
use Rattle.replay_core.specs.Margin.{wait_of}
use Rattle.replay_core.specs.Steps.{step_at, draw_in}
use Rattle.row_forms.specs.declared.piece.Which.{Which}
use Rattle.row_forms.specs.declared.piece.Which.TheVariants.{Any, Idle, One, From, Into, Among, Charges}
use Rattle.row_forms.specs.declared.piece.Figure.{Figure}
use Rattle.row_forms.specs.declared.piece.Figure.TheVariants.{Choice, Volume, Amount, Start, End, Wait}
use Rattle.row_forms.specs.declared.piece.Piece.{Piece}
use Rattle.row_forms.specs.Pieces.{takes, is_of, is_slot, covers}

-- a figure of operation k of the word
abbrev pub figure_of : Parts → List Timed → ℕ → Figure → ℕ
figure_of parts word k Choice = 1
figure_of parts word k Volume = sum (draw_in parts word k)
figure_of parts word k (Amount crude) = slice_index (draw_in parts word k) crude
figure_of parts word k Start = (step_at word k).start
figure_of parts word k End = (step_at word k).end
figure_of parts word k Wait = 0

-- a figure of slot k + 1, where its entry is taken; an idle slot has its choice alone
abbrev pub figure_at : Parts → List Timed → Which → Figure → ℕ → ℕ
figure_at parts word which figure k =
    if nat_lt k (length word)
    then when (takes parts which (step_at word k).op) (figure_of parts word k figure)
    else when (is_of figure Z && takes parts which IDLE_ENTRY) 1

-- the entries that are taken are operations of the plant
abbrev pub TakesOperations : Parts → Which → Type 0
TakesOperations parts Any = ⊥
TakesOperations parts Idle = ⊥
TakesOperations parts (One v) = v < op_count_of parts
TakesOperations parts (From p) = ⊤
TakesOperations parts (Into p) = ⊤
TakesOperations parts (Among mask) = ⊤
TakesOperations parts Charges = ⊤

-- whether operation k of the word is there and taken
abbrev pub is_taken : Parts → List Timed → Which → ℕ → Bool
is_taken parts word which k = nat_lt k (length word) && takes parts which (step_at word k).op

-- a piece over its slots
abbrev pub sum_of_slots : Parts → ℕ → List Timed → Piece → ℕ
sum_of_slots parts n word piece =
    sum_below n (λ k. when (is_slot piece (k + 1)) (figure_at parts word piece.which piece.figure k))

-- and over its vessels
abbrev pub sum_of_waits : Parts → List Timed → Piece → ℕ
sum_of_waits parts word piece =
    sum_below (length parts.vessels) (λ p. when (covers parts piece (vessel_column p)) (wait_of parts word p))

-- both
abbrev pub piece_sum : Parts → ℕ → List Timed → Piece → ℕ
piece_sum parts n word piece = sum_of_slots parts n word piece + sum_of_waits parts word piece

-- each piece by its factor, all together
abbrev pub sum_of_pieces : Parts → ℕ → List Timed → List Piece → ℤ
sum_of_pieces parts n word pieces = total_by (λ piece. piece.factor *ℤ pos (piece_sum parts n word piece)) pieces
