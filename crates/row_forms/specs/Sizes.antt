-- How far the numbers of a form reach, and how far the factors of pieces do.
use Rattle.std.specs.Prelude.{ℕ, ◌*◌, ◌^◌, ◌<◌, ◌≤◌, List, length, All, sum_by, unsigned_abs}
use Rattle.limits.specs.declared.TheConstants.{MOST_HORIZON, MOST_VOLUME, MOST_PIECES}
use Rattle.linear_form.specs.declared.column.Part.{Part}
use Rattle.linear_form.specs.declared.column.Part.TheVariants.{Z, A, S, E, W}
use Rattle.row_forms.specs.declared.piece.Figure.{Figure}
use Rattle.row_forms.specs.declared.piece.Figure.TheVariants.{Choice, Volume, Amount, Start, End, Wait}
use Rattle.row_forms.specs.declared.piece.Piece.{Piece}

-- how great a number may be in absolute value, by its part
abbrev pub part_reach : Part → ℕ
part_reach Z = 1
part_reach (A crude) = MOST_VOLUME
part_reach S = MOST_HORIZON
part_reach E = MOST_HORIZON
part_reach W = MOST_HORIZON

-- and by its figure
abbrev pub figure_reach : Figure → ℕ
figure_reach Choice = 1
figure_reach Volume = MOST_VOLUME
figure_reach (Amount crude) = MOST_VOLUME
figure_reach Start = MOST_HORIZON
figure_reach End = MOST_HORIZON
figure_reach Wait = MOST_HORIZON

-- a factor times the reach of its figure
abbrev pub piece_reach : Piece → ℕ
piece_reach piece = unsigned_abs piece.factor * figure_reach piece.figure

-- the pieces together reach so little that no sum of a row leaves its width
abbrev pub HasSmallReach : List Piece → Type 0
HasSmallReach pieces = sum_by piece_reach pieces < 2 ^ 60

-- few pieces, each with a small factor
pub record AreFewAndSmall (pieces : List Piece) : Type 0 where
  pub few : length pieces ≤ MOST_PIECES
  pub small : All (λ piece. unsigned_abs piece.factor ≤ MOST_VOLUME) pieces
