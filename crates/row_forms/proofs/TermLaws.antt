-- What holds of each term: its column is one of the extent's, and its factor is small.
use Rattle.std.proofs.Common.{◌≡◌, ◌*◌, ◌^◌, ◌<◌, ◌≤◌, inl, inr, true, List, [], ◌∷◌, length, All, ℤ, pos, unsigned_abs, refl, arith}
use Rattle.std.specs.Prelude.{◌&&◌, sum_by}
use Rattle.std.specs.Ordering.{int_eq}
use Rattle.std.proofs.Math.Nat.{add-mul, mul-le-mul_left, mul-le-mul_right}
use Rattle.std.proofs.lemmas.Bool.{cases_Bool, and_parts}
use Rattle.std.proofs.lemmas.List.Elements.{All-head, All-tail, All-nil, All-cons}
use Rattle.std.proofs.lemmas.List.Sums.{sum_by-cons}
use Rattle.limits.specs.declared.TheConstants.{MOST_VOLUME}
use Rattle.linear_form.specs.declared.column.Column.{Column}
use Rattle.linear_form.specs.declared.column.Part.{Part}
use Rattle.linear_form.specs.declared.column.Part.TheVariants.{Z, A, S, E, W}
use Rattle.linear_form.specs.declared.row.RowTerm.{RowTerm}
use Rattle.linear_form.specs.Listed.{columns_of}
use Rattle.number_laws.proofs.SignedSumLaws.{abs-sum}
use Rattle.plant_model.specs.declared.parts.Parts.{Parts}
use Rattle.row_forms.specs.declared.piece.Figure.{Figure}
use Rattle.row_forms.specs.declared.piece.Figure.TheVariants.{Choice, Volume, Amount, Start, End, Wait}
use Rattle.row_forms.specs.declared.piece.Piece.{Piece}
use Rattle.row_forms.specs.Columns.{extent_of}
use Rattle.row_forms.specs.Laws.{TermsAreSmall, FewPiecesReachLittle}
use Rattle.row_forms.specs.Pieces.{takes, is_of, is_slot, covers, factor_in, factor_at}
use Rattle.row_forms.specs.Sizes.{part_reach, figure_reach, piece_reach}
use Rattle.row_forms.specs.Terms.{terms_over}

-- what holds of each column with its factor holds of the terms
pub all-terms : (P : RowTerm → Type 0) (factor : Column → ℤ) (columns : List Column) →
    All (λ column. P (record { column = column; factor = factor column })) columns →
    All P (terms_over factor columns)
all-terms P factor [] each = All-nil P
all-terms P factor (column ∷ columns) each =
    let Q = λ (x : Column). P (record { column = x; factor = factor x }) in
    let rest = all-terms P factor columns (All-tail Q column columns each) in
    elim (cases_Bool (int_eq (factor column) (pos 0))) [
      | inl none ↦ rw none rest
      | inr some ↦ rw some (All-cons P (record { column = column; factor = factor column }) (terms_over factor columns) (All-head Q column columns each) rest)
    ]

-- ---- sizes

-- a part reaches as far as its figure
reach-of : (figure : Figure) (part : Part) → is_of figure part ≡ true → part_reach part ≡ figure_reach figure
reach-of Choice Z is = refl
reach-of Volume (A crude) is = refl
reach-of (Amount c) (A crude) is = refl
reach-of Start S is = refl
reach-of End E is = refl
reach-of Wait W is = refl
reach-of figure part is = cc

some-reach : (figure : Figure) → 1 ≤ figure_reach figure
some-reach Choice = omega arith
some-reach Volume = omega arith
some-reach (Amount c) = omega arith
some-reach Start = omega arith
some-reach End = omega arith
some-reach Wait = omega arith

-- what a piece gives a column, over all that the column's number may be
factor-reach : (parts : Parts) (column : Column) (piece : Piece) → unsigned_abs (factor_in parts column piece) * part_reach column.part ≤ piece_reach piece
factor-reach parts column piece =
    elim (cases_Bool (covers parts piece column)) [
      | inl is ↦
          let both = and_parts (is_slot piece column.slot && takes parts piece.which column.entry) (is_of piece.figure column.part) is in
          let same = reach-of piece.figure column.part both.1 in
          rw (is, same) (omega arith)
      | inr not ↦ rw not (omega arith)
    ]

-- and alone
pub factor-small : (parts : Parts) (column : Column) (piece : Piece) → unsigned_abs (factor_in parts column piece) ≤ piece_reach piece
factor-small parts column piece =
    let some : unsigned_abs piece.factor * 1 ≤ piece_reach piece = mul-le-mul_left (unsigned_abs piece.factor) (some-reach piece.figure) in
    elim (cases_Bool (covers parts piece column)) [
      | inl is ↦ rw is (omega arith)
      | inr not ↦ rw not (omega arith)
    ]

pub factors-reach : (parts : Parts) (column : Column) (pieces : List Piece) → unsigned_abs (factor_at parts pieces column) * part_reach column.part ≤
    sum_by piece_reach pieces
factors-reach parts column [] = omega arith
factors-reach parts column (piece ∷ pieces) =
    let reach = part_reach column.part in
    let a = unsigned_abs (factor_in parts column piece) in
    let b = unsigned_abs (factor_at parts pieces column) in
    let first = factor-reach parts column piece in
    let rest = factors-reach parts column pieces in
    let both = mul-le-mul_right reach (abs-sum (factor_in parts column piece) (factor_at parts pieces column)) in
    let parted = add-mul a b reach in
    let sum = sum_by-cons piece_reach piece pieces in
    omega arith

pub terms_are_small : (parts : Parts) → TermsAreSmall parts
terms_are_small parts n pieces sizes =
    all-terms (λ (term : RowTerm). unsigned_abs term.factor * part_reach term.column.part < 2 ^ 60) (factor_at parts pieces) (columns_of (extent_of parts n))
    (λ k d there. within _)
  where
    within : (column : Column) → unsigned_abs (factor_at parts pieces column) * part_reach column.part < 2 ^ 60
    within column = (let reach = factors-reach parts column pieces in omega arith)

-- ---- few pieces

most-reach : (figure : Figure) → figure_reach figure ≤ MOST_VOLUME
most-reach Choice = omega arith
most-reach Volume = omega arith
most-reach (Amount c) = omega arith
most-reach Start = omega arith
most-reach End = omega arith
most-reach Wait = omega arith

abbrev HasSmallFactor : Piece → Type 0
HasSmallFactor piece = unsigned_abs piece.factor ≤ MOST_VOLUME

each-reach : (piece : Piece) → HasSmallFactor piece → piece_reach piece ≤ MOST_VOLUME * MOST_VOLUME
each-reach piece small =
    let first : piece_reach piece ≤ unsigned_abs piece.factor * MOST_VOLUME = mul-le-mul_left (unsigned_abs piece.factor) (most-reach piece.figure) in
    omega arith

pieces-reach : (pieces : List Piece) → All HasSmallFactor pieces → sum_by piece_reach pieces ≤ length pieces * (MOST_VOLUME * MOST_VOLUME)
pieces-reach [] small = omega arith
pieces-reach (piece ∷ pieces) small =
    let first = each-reach piece (All-head HasSmallFactor piece pieces small) in
    let rest = pieces-reach pieces (All-tail HasSmallFactor piece pieces small) in
    let sum = sum_by-cons piece_reach piece pieces in
    omega arith

pub few_pieces_reach_little : FewPiecesReachLittle
few_pieces_reach_little pieces sizes = (let reach = pieces-reach pieces sizes.small in let few = sizes.few in omega arith)
