-- Without rows, the dual value of the objective over a box fits 64 bits.
use Rattle.std.proofs.Common.{◌≡◌, ℕ, ◌+◌, ◌*◌, ◌^◌, ◌<◌, ◌≤◌, List, [], ◌∷◌, ◌++◌, length, map, get_or, All, sum_by, ℤ, pos, negsuc, ◌≤ℤ◌, neg_ℤ, unsigned_abs, FitsSigned, ap, sym, ◌∙◌, subst, arith}
use Rattle.std.specs.Int.{w64}
use Rattle.std.specs.List.{range_with_len}
use Rattle.std.proofs.Math.Nat.{mul-le-mul_left, mul-le-mul_right}
use Rattle.std.proofs.lemmas.Int.{ints}
use Rattle.std.proofs.lemmas.List.Elements.{All-head, All-tail, All-from_get_or}
use Rattle.std.proofs.lemmas.List.FromFn.{get_or-map-range_with_len, length-map-range_with_len}
use Rattle.std.proofs.lemmas.List.Sums.{sum_by-append, sum_by-cons}
use Rattle.dual_bound.specs.Conditions.{reach_of}
use Rattle.dual_bound.specs.Dual.{factor_of, weight_of, most_in, range_at, dual_sum}
use Rattle.dual_bound.specs.Laws.{against, greatest_loss}
use Rattle.dual_bound.proofs.EarnedLaws.{most_in-size}
use Rattle.dual_bound.proofs.FactorLaws.{factor-limit}
use Rattle.dual_bound.proofs.KeepLaws.{floor-one}
use Rattle.limits.specs.declared.TheConstants.{MOST_CRUDES, MOST_DEMURRAGE, MOST_HORIZON, MOST_MARGIN, MOST_PLACES, MOST_VOLUME}
use Rattle.linear_form.specs.declared.column.Column.{Column}
use Rattle.linear_form.specs.declared.row.RowTerm.{RowTerm}
use Rattle.linear_form.specs.Bounds.{range_of}
use Rattle.linear_form.specs.Columns.{count_of}
use Rattle.linear_form.specs.Listed.{columns_of}
use Rattle.number_laws.proofs.SignedSumLaws.{abs-high, abs-negative, total_below-abs}
use Rattle.plant_model.specs.declared.parts.Parts.{Parts}
use Rattle.plant_model.specs.Parts.{crude_count_of, margin_of, place_count_of, place_of}
use Rattle.plant_model.specs.Sound.{SoundPlant}
use Rattle.row_forms.specs.declared.piece.Piece.{Piece}
use Rattle.row_forms.specs.Columns.{extent_of}
use Rattle.row_forms.specs.Laws.{ColumnsAreFew, TermsAreOnce, TermsAreOfColumns}
use Rattle.row_forms.specs.Pieces.{factor_at}
use Rattle.row_forms.specs.Sizes.{part_reach, piece_reach}
use Rattle.row_forms.proofs.OfColumnLaws.{columns-counted}
use Rattle.row_forms.proofs.TermLaws.{all-terms, factors-reach}
use Rattle.slot_box.specs.declared.slot.Slot.{Slot}
use Rattle.slot_box.specs.Boxes.{IsBox}
use Rattle.slot_rows.specs.Fits.{LossesFit, PlainValuesFit}
use Rattle.slot_rows.specs.Objective.{gain_pieces, gain_piece, demurrage_pieces, demurrage_piece, objective_of}
use Rattle.slot_rows.specs.Ranges.{ranges_of}
use Rattle.slot_rows.proofs.FitLaws.{column-reach}

-- ---- how far the objective's factors reach

-- of all pieces together: each crude at the greatest margin and volume, each vessel at the greatest demurrage and wait
abbrev most_gain : ℕ
most_gain = MOST_MARGIN * MOST_VOLUME

abbrev most_pay : ℕ
most_pay = MOST_DEMURRAGE * MOST_HORIZON

abbrev most_reach : ℕ
most_reach = MOST_CRUDES * most_gain + MOST_PLACES * most_pay

sized-reach : (factor : ℤ) (most reach : ℕ) → unsigned_abs factor ≤ most → unsigned_abs factor * reach ≤ most * reach
sized-reach factor most reach small = mul-le-mul_right reach small

margin-size : (margin : ℤ) (most : ℕ) → neg_ℤ (pos most) ≤ℤ margin → margin ≤ℤ pos most → unsigned_abs margin ≤ most
margin-size (pos m) most low high = omega (arith, ints, low, high)
margin-size (negsuc m) most low high = omega (arith, ints, low, high)

gain-reach : (parts : Parts) (n c : ℕ) → SoundPlant parts → c < crude_count_of parts → piece_reach (gain_piece parts n c) ≤ most_gain
gain-reach parts n c sound known =
    let within = sound.each_margin c known in
    sized-reach (margin_of parts c) MOST_MARGIN MOST_VOLUME (margin-size (margin_of parts c) MOST_MARGIN within.0 within.1)

pay-reach : (parts : Parts) (p : ℕ) → SoundPlant parts → p < place_count_of parts → piece_reach (demurrage_piece parts p) ≤ most_pay
pay-reach parts p sound known =
    let pays = (sound.each_place p known).demurrage in
    let size : unsigned_abs (neg_ℤ (pos (place_of parts p).demurrage)) ≤ MOST_DEMURRAGE = rw (abs-negative (pos (place_of parts p).demurrage)) pays in
    sized-reach (neg_ℤ (pos (place_of parts p).demurrage)) MOST_DEMURRAGE MOST_HORIZON size

reach-sum : (most : ℕ) (pieces : List Piece) → All (λ piece. piece_reach piece ≤ most) pieces → sum_by piece_reach pieces ≤ length pieces * most
reach-sum most [] small = omega arith
reach-sum most (piece ∷ pieces) small =
    let first = All-head (λ (p : Piece). piece_reach p ≤ most) piece pieces small in
    let rest = reach-sum most pieces (All-tail (λ (p : Piece). piece_reach p ≤ most) piece pieces small) in
    omega (arith, first, rest, sum_by-cons piece_reach piece pieces)

-- pieces by number, each of which reaches no further
numbered-reach : (most n : ℕ) (f : ℕ → Piece) → ((k : ℕ) → k < n → piece_reach (f k) ≤ most) → sum_by piece_reach (map f (range_with_len 0 n)) ≤ n * most
numbered-reach most n f small =
    let count = length-map-range_with_len f 0 n in
    let each : All (λ piece. piece_reach piece ≤ most) (map f (range_with_len 0 n)) =
    All-from_get_or (λ (piece : Piece). piece_reach piece ≤ most) (map f (range_with_len 0 n)) (f 0)
    (λ k within.
    let at = get_or-map-range_with_len f 0 n k k (f 0) (omega (arith, count, within)) (omega arith) in
    subst (λ (piece : Piece). piece_reach piece ≤ most) (sym at) (small k (omega (arith, count, within)))) in
    subst (λ (m : ℕ). sum_by piece_reach (map f (range_with_len 0 n)) ≤ m * most) count (reach-sum most (map f (range_with_len 0 n)) each)

-- the plant's vessels are places
vessels-known : (parts : Parts) → length parts.vessels ≤ place_count_of parts
unfolding place_count_of
vessels-known parts = omega arith

objective-reach : (parts : Parts) (n : ℕ) → SoundPlant parts → sum_by piece_reach (gain_pieces parts n ++ demurrage_pieces parts) ≤ most_reach
objective-reach parts n sound =
    let vessels = vessels-known parts in
    let gains = numbered-reach most_gain (crude_count_of parts) (gain_piece parts n) (λ c known. gain-reach parts n c sound known) in
    let pays = numbered-reach most_pay (length parts.vessels) (demurrage_piece parts) (λ p known. pay-reach parts p sound (omega (arith, vessels, known))) in
    omega (arith, sum_by-append piece_reach (gain_pieces parts n) (demurrage_pieces parts), gains, pays, sound.crudes.1, sound.places, vessels)

fits_of : (z : ℤ) → unsigned_abs z < 2 ^ 63 → FitsSigned w64 z
fits_of (pos n) small = record { sfits = omega (arith, small) }
fits_of (negsuc n) small = record { sfits = omega (arith, small) }

-- ---- over the ranges of a box

abbrev Within : Parts → List Slot → RowTerm → Type 0
Within parts box term = unsigned_abs term.factor * reach_of (range_of (ranges_of parts box) term.column) ≤ most_reach

objective-within : (parts : Parts) (box : List Slot) → SoundPlant parts → IsBox box → TermsAreOfColumns parts →
    All (Within parts box) (objective_of parts (length box))
unfolding objective_of
objective-within parts box sound is columns = λ k d within.
    let n = length box in
    let pieces = gain_pieces parts n ++ demurrage_pieces parts in
    let term = get_or (objective_of parts n) k d in
    let each = all-terms (λ (t : RowTerm). unsigned_abs t.factor * part_reach t.column.part ≤ most_reach) (factor_at parts pieces) (columns_of (extent_of parts n))
    (λ j c there. small _) in
    let near = mul-le-mul_left (unsigned_abs term.factor) (column-reach parts box term.column sound is (columns n pieces k d within)) in
    omega (arith, near, each k d within)
  where
    small : (column : Column) → unsigned_abs (factor_at parts (gain_pieces parts (length box) ++ demurrage_pieces parts) column) * part_reach column.part
        ≤ most_reach
    small column =
        let reach = factors-reach parts column (gain_pieces parts (length box) ++ demurrage_pieces parts) in
        omega (arith, reach, objective-reach parts (length box) sound)

-- what a column earns by the objective's factor or its opposite
earned-size : (parts : Parts) (box : List Slot) (j : ℕ) (weight : ℤ) → SoundPlant parts → IsBox box → TermsAreOnce parts → TermsAreOfColumns parts →
    unsigned_abs weight ≡ unsigned_abs (factor_of (ranges_of parts box).extent j (objective_of parts (length box))) →
    unsigned_abs (most_in (range_at (ranges_of parts box) j) weight) ≤ most_reach
unfolding objective_of ranges_of
earned-size parts box j weight sound is once columns same =
    let bounds = ranges_of parts box in
    let n = length box in
    let limit = factor-limit bounds.extent (λ j. reach_of (range_at bounds j)) most_reach (objective_of parts n) (columns n _) (once n _) (objective-within parts box sound is columns) in
    most_in-size (range_at bounds j) weight most_reach (rw same (limit j))

pub plain_values_fit : (parts : Parts) → SoundPlant parts → ColumnsAreFew parts → TermsAreOnce parts → TermsAreOfColumns parts → PlainValuesFit parts
unfolding objective_of ranges_of
plain_values_fit parts sound few once columns box is =
    let n = length box in
    let bounds = ranges_of parts box in
    let objective = objective_of parts n in
    let weight = λ (j : ℕ). weight_of bounds.extent [] objective [] 1 j in
    let earned = total_below-abs (count_of bounds.extent) most_reach (λ j. most_in (range_at bounds j) (weight j))
    (λ j below.
    let same : weight j ≡ factor_of bounds.extent j objective = omega (arith, ints) in
    earned-size parts box j (weight j) sound is once columns (ap unsigned_abs same)) in
    let columns_few = few n is.most_slots in
    let sum = dual_sum [] bounds objective [] 1 in
    let whole : unsigned_abs sum ≤ count_of bounds.extent * most_reach = omega (arith, ints, earned) in
    let value = floor-one sum in
    rw value (fits_of sum (omega (arith, whole, columns_few)))

-- likewise of the opposite, more sharply
pub losses_fit : (parts : Parts) → SoundPlant parts → TermsAreOnce parts → TermsAreOfColumns parts → LossesFit parts
unfolding objective_of ranges_of
losses_fit parts sound once columns box is =
    let n = length box in
    let bounds = ranges_of parts box in
    let objective = objective_of parts n in
    let weight = λ (j : ℕ). weight_of bounds.extent (against objective ∷ []) [] (1 ∷ []) 1 j in
    let earned = total_below-abs (count_of bounds.extent) most_reach (λ j. most_in (range_at bounds j) (weight j))
    (λ j below.
    let same : weight j ≡ neg_ℤ (factor_of bounds.extent j objective) = omega (arith, ints) in
    earned-size parts box j (weight j) sound is once columns (ap unsigned_abs same ∙ abs-negative (factor_of bounds.extent j objective))) in
    let counted = columns-counted parts n sound is.most_slots in
    let loss = greatest_loss bounds objective in
    let whole : unsigned_abs loss ≤ count_of bounds.extent * most_reach = omega (arith, ints, earned) in
    abs-high loss (2 ^ 62) (omega (arith, whole, counted))
