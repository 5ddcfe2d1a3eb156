-- What a row comes to at the numbers of a form: each piece by what it takes.
use Rattle.std.proofs.Common.{◌≡◌, ℕ, ◌+◌, inl, inr, Bool, true, false, List, [], ◌∷◌, ℤ, pos, ◌+ℤ◌, ◌*ℤ◌, ◌≤ℤ◌, subst, if◌then◌else◌, ap, sym, ◌∙◌, refl, arith}
use Rattle.std.specs.List.{sum_by}
use Rattle.std.specs.Ordering.{int_eq}
use Rattle.std.proofs.Math.IntN.{zero-*ℤ, *ℤ_comm}
use Rattle.std.proofs.lemmas.Bool.{cases_Bool}
use Rattle.std.proofs.lemmas.Bool.Decides.{Decides-int_eq}
use Rattle.std.proofs.lemmas.Int.{ints}
use Rattle.std.proofs.lemmas.List.Sums.{sum_by-cons}
use Rattle.linear_form.specs.declared.column.Column.{Column}
use Rattle.linear_form.specs.Points.{Point, term_at, value_at}
use Rattle.linear_form.specs.Listed.{columns_of}
use Rattle.number_laws.specs.SignedSums.{total_by}
use Rattle.number_laws.specs.Sums.{when}
use Rattle.number_laws.proofs.ProductLaws.{product-sum, sum-product}
use Rattle.number_laws.proofs.SignedSumLaws.{total_by-append, total_by-same, total_by-zeros, total_by-sum}
use Rattle.plant_model.specs.declared.parts.Parts.{Parts}
use Rattle.plant_model.specs.Sound.{SoundPlant}
use Rattle.replay_core.specs.declared.timed.Timed.{Timed}
use Rattle.row_forms.specs.declared.piece.Piece.{Piece}
use Rattle.row_forms.specs.Columns.{extent_of}
use Rattle.row_forms.specs.Laws.{RowsHoldByPieces}
use Rattle.row_forms.specs.Numbers.{number_in, numbers_of}
use Rattle.row_forms.specs.Pieces.{covers, factor_in, factor_at}
use Rattle.row_forms.specs.Sums.{piece_sum, sum_of_pieces}
use Rattle.row_forms.specs.Terms.{term_of, terms_over, terms_of}
use Rattle.row_forms.proofs.FigureLaws.{taken_of, columns-sum}
use Rattle.row_forms.proofs.RunLaws.{Fits, fits-run}

-- ---- terms

term-value : (factor : Column → ℤ) (point : Point) (column : Column) → value_at (term_of factor column) point ≡ factor column *ℤ point column
term-value factor point column =
    elim (cases_Bool (int_eq (factor column) (pos 0))) [
      | inl is ↦
          let none : factor column ≡ pos 0 = (Decides-int_eq (factor column) (pos 0)).0 is in
          rw is (sym (ap (λ (z : ℤ). z *ℤ point column) none ∙ zero-*ℤ (point column)))
      | inr some ↦ rw some (omega (arith, ints))
    ]

-- the factor of each column times its number
terms-value : (factor : Column → ℤ) (point : Point) (columns : List Column) → value_at (terms_over factor columns) point ≡
    total_by (λ column. factor column *ℤ point column) columns
terms-value factor point [] = refl
terms-value factor point (column ∷ columns) =
    let parted = total_by-append (term_at point) (term_of factor column) (terms_over factor columns) in
    let first = term-value factor point column in
    let rest = terms-value factor point columns in
    omega (arith, ints, parted, first, rest)

-- ---- pieces

taken : (b : Bool) (f : ℤ) (x : ℕ) → (if b then f else pos 0) *ℤ pos x ≡ f *ℤ pos (when b x)
taken true f x = refl
taken false f x = zero-*ℤ (pos x) ∙ sym (*ℤ_comm f (pos 0) ∙ zero-*ℤ f)

scaled-more : (f : ℤ) (a b : ℕ) → f *ℤ pos (a + b) ≡ (f *ℤ pos a) +ℤ (f *ℤ pos b)
scaled-more f a b = let parts : pos (a + b) ≡ pos a +ℤ pos b = omega (arith, ints) in ap (λ (z : ℤ). f *ℤ z) parts ∙ product-sum f (pos a) (pos b)

-- one piece over some columns
piece-value : (parts : Parts) (word : List Timed) (piece : Piece) (columns : List Column) →
    total_by (λ column. factor_in parts column piece *ℤ numbers_of parts word column) columns ≡ piece.factor *ℤ pos (sum_by (taken_of parts word piece) columns)
piece-value parts word piece [] = sym (*ℤ_comm piece.factor (pos 0) ∙ zero-*ℤ piece.factor)
piece-value parts word piece (column ∷ columns) =
    let g = taken_of parts word piece in
    let first = taken (covers parts piece column) piece.factor (number_in parts word column) in
    let rest = piece-value parts word piece columns in
    let parted = scaled-more piece.factor (g column) (sum_by g columns) in
    let sums = ap (λ (n : ℕ). piece.factor *ℤ pos n) (sum_by-cons g column columns) in
    omega (arith, ints, first, rest, parted, sums)

-- the pieces together
pieces-value : (parts : Parts) (word : List Timed) (columns : List Column) (pieces : List Piece) →
    total_by (λ column. factor_at parts pieces column *ℤ numbers_of parts word column) columns ≡
    total_by (λ piece. piece.factor *ℤ pos (sum_by (taken_of parts word piece) columns)) pieces
pieces-value parts word columns [] = total_by-zeros (numbers_of parts word) columns
pieces-value parts word columns (piece ∷ pieces) =
    let y = numbers_of parts word in
    let split = total_by-same (λ column. factor_at parts (piece ∷ pieces) column *ℤ y column)
    (λ column. (factor_in parts column piece *ℤ y column) +ℤ (factor_at parts pieces column *ℤ y column)) columns
    (λ column. sum-product (factor_in parts column piece) (factor_at parts pieces column) (y column)) in
    let both = total_by-sum (λ column. factor_in parts column piece *ℤ y column) (λ column. factor_at parts pieces column *ℤ y column) columns in
    let first = piece-value parts word piece columns in
    let rest = pieces-value parts word columns pieces in
    omega (arith, ints, split, both, first, rest)

-- the value of a row at a form
pub value-at_form : (parts : Parts) (n : ℕ) (word : List Timed) (pieces : List Piece) → Fits parts word →
    value_at (terms_of parts n pieces) (numbers_of parts word) ≡ sum_of_pieces parts n word pieces
value-at_form parts n word pieces fits =
    let columns = columns_of (extent_of parts n) in
    terms-value (factor_at parts pieces) (numbers_of parts word) columns
    ∙ (pieces-value parts word columns pieces
    ∙ total_by-same (λ piece. piece.factor *ℤ pos (sum_by (taken_of parts word piece) columns))
    (λ piece. piece.factor *ℤ pos (piece_sum parts n word piece)) pieces
    (λ piece. ap (λ (s : ℕ). piece.factor *ℤ pos s) (columns-sum parts n word piece fits)))

pub rows_hold_by_pieces : (parts : Parts) → SoundPlant parts → RowsHoldByPieces parts
rows_hold_by_pieces parts sound order word n inequality runs =
    let value = value-at_form parts n word inequality.pieces (fits-run parts order word sound runs) in
    (λ met. subst (λ (z : ℤ). z ≤ℤ inequality.right) value met, λ small. subst (λ (z : ℤ). z ≤ℤ inequality.right) (sym value) small)
