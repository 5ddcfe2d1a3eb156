-- What is so of the terms of pieces, and what they come to at the numbers of a form.
use Rattle.std.specs.Prelude.{◌≡◌, ℕ, ◌-◌, ◌*◌, ◌^◌, ◌<◌, ◌≤◌, List, length, All, ℤ, ◌≤ℤ◌, unsigned_abs, ◌↔◌}
use Rattle.limits.specs.declared.TheConstants.{MOST_COLUMNS, MOST_SLOTS}
use Rattle.number_laws.specs.Sums.{sum_below, when}
use Rattle.linear_form.specs.Columns.{IsColumn, count_of}
use Rattle.linear_form.specs.Points.{value_at, IsMet}
use Rattle.linear_form.specs.Rows.{HasEachOnce}
use Rattle.plant_model.specs.declared.parts.Parts.{Parts}
use Rattle.replay_core.specs.declared.order.Order.{Order}
use Rattle.replay_core.specs.declared.timed.Timed.{Timed}
use Rattle.replay_core.specs.Legal.{CanRun}
use Rattle.replay_core.specs.Margin.{wait_of}
use Rattle.row_forms.specs.declared.piece.Figure.{Figure}
use Rattle.row_forms.specs.declared.piece.Inequality.{Inequality}
use Rattle.row_forms.specs.declared.piece.Piece.{Piece}
use Rattle.row_forms.specs.declared.piece.Which.{Which}
use Rattle.row_forms.specs.Columns.{extent_of}
use Rattle.row_forms.specs.Numbers.{numbers_of}
use Rattle.row_forms.specs.Pieces.{piece_of, wait_piece}
use Rattle.row_forms.specs.Sizes.{part_reach, HasSmallReach, AreFewAndSmall}
use Rattle.row_forms.specs.Sums.{TakesOperations, is_taken, figure_of, figure_at, piece_sum, sum_of_pieces}
use Rattle.row_forms.specs.Terms.{terms_of, row_of}

-- forms of a plant have no more columns than are asked for
abbrev pub ColumnsAreFew : Parts → Type 0
ColumnsAreFew parts = (n : ℕ) → n ≤ MOST_SLOTS → count_of (extent_of parts n) ≤ MOST_COLUMNS

-- no column stands twice
abbrev pub TermsAreOnce : Parts → Type 0
TermsAreOnce parts = (n : ℕ) (pieces : List Piece) → HasEachOnce (terms_of parts n pieces)

-- each term is of a column of these forms
abbrev pub TermsAreOfColumns : Parts → Type 0
TermsAreOfColumns parts =
    (n : ℕ) (pieces : List Piece) → All (λ term. IsColumn (extent_of parts n) term.column) (terms_of parts n pieces)

-- and its factor is small over all that the column's number may be
abbrev pub TermsAreSmall : Parts → Type 0
TermsAreSmall parts =
    (n : ℕ) (pieces : List Piece) → HasSmallReach pieces →
    All (λ term. unsigned_abs term.factor * part_reach term.column.part < 2 ^ 60) (terms_of parts n pieces)

-- few pieces with small factors reach little
abbrev pub FewPiecesReachLittle : Type 0
FewPiecesReachLittle = (pieces : List Piece) → AreFewAndSmall pieces → HasSmallReach pieces

-- the terms come to what the pieces come to, whatever order the word has kept
abbrev pub TermsComeToPieces : Parts → Type 0
TermsComeToPieces parts =
    (order : Order) (word : List Timed) (n : ℕ) (pieces : List Piece) → CanRun parts order word →
    value_at (terms_of parts n pieces) (numbers_of parts word) ≡ sum_of_pieces parts n word pieces

-- so a row holds at a form exactly where its pieces come to at most the right side
abbrev pub RowsHoldByPieces : Parts → Type 0
RowsHoldByPieces parts =
    (order : Order) (word : List Timed) (n : ℕ) (inequality : Inequality) → CanRun parts order word →
    IsMet (numbers_of parts word) (row_of parts n inequality)
    ↔ (sum_of_pieces parts n word inequality.pieces ≤ℤ inequality.right)

-- ---- what some pieces come to

-- where operations alone are taken, an idle slot has no figure
abbrev pub FiguresAreOfOperations : Parts → Type 0
FiguresAreOfOperations parts =
    (word : List Timed) (which : Which) (figure : Figure) (k : ℕ) → TakesOperations parts which →
    figure_at parts word which figure k ≡ when (is_taken parts word which k) (figure_of parts word k figure)

-- a piece of one slot
abbrev pub OneSlotIsItsFigure : Parts → Type 0
OneSlotIsItsFigure parts =
    (word : List Timed) (n slot : ℕ) (factor : ℤ) (which : Which) (figure : Figure) → 1 ≤ slot → slot ≤ n →
    piece_sum parts n word (piece_of factor slot slot which figure) ≡ figure_at parts word which figure (slot - 1)

-- a piece of the slots from 1 to one of them
abbrev pub FirstSlotsAreTheirFigures : Parts → Type 0
FirstSlotsAreTheirFigures parts =
    (word : List Timed) (n slot : ℕ) (factor : ℤ) (which : Which) (figure : Figure) → slot ≤ n →
    piece_sum parts n word (piece_of factor 1 slot which figure) ≡ sum_below slot (figure_at parts word which figure)

-- the piece of a vessel
abbrev pub WaitIsTheVessels : Parts → Type 0
WaitIsTheVessels parts =
    (word : List Timed) (n p : ℕ) (factor : ℤ) → p < length parts.vessels →
    piece_sum parts n word (wait_piece factor p) ≡ wait_of parts word p
