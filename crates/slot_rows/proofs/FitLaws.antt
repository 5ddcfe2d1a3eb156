-- Fit rows and objectives can be weighed over the ranges of a box.
use Rattle.std.proofs.Common.{◌≡◌, ℕ, ◌*◌, ◌^◌, ◌<◌, ◌≤◌, List, length, get_or, All, ap, sym, ◌∙◌, subst, ◌≤ℤ◌, unsigned_abs, arith}
use Rattle.std.proofs.Math.Nat.{mul-le-mul_left}
use Rattle.std.proofs.lemmas.Int.{ints}
use Rattle.std.proofs.lemmas.List.Elements.{All-from_get_or}
use Rattle.std.proofs.lemmas.List.FromFn.{get_or-map-range_with_len, length-map-range_with_len}
use Rattle.dual_bound.specs.Conditions.{reach_of, AreSmall}
use Rattle.linear_form.specs.declared.column.Column.{Column}
use Rattle.linear_form.specs.declared.row.RowTerm.{RowTerm}
use Rattle.linear_form.specs.declared.ranges.Interval.{Interval}
use Rattle.linear_form.specs.Bounds.{zero_alone, range_of}
use Rattle.linear_form.specs.Columns.{IsColumn, count_of, number_of, column_at}
use Rattle.linear_form.proofs.ColumnLaws.{number-below, number-back, column-there}
use Rattle.plant_model.specs.declared.parts.Parts.{Parts}
use Rattle.plant_model.specs.Sound.{SoundPlant}
use Rattle.row_forms.specs.Columns.{extent_of}
use Rattle.row_forms.specs.Laws.{ColumnsAreFew}
use Rattle.row_forms.specs.Sizes.{part_reach}
use Rattle.slot_box.specs.declared.slot.Slot.{Slot}
use Rattle.slot_box.specs.declared.slot.Span.{Span}
use Rattle.slot_box.specs.Boxes.{IsBox}
use Rattle.row_forms.specs.Fits.{AreFitTerms}
use Rattle.slot_rows.specs.Fits.{WeighFitRows, WeighFitTerms}
use Rattle.slot_rows.specs.Ranges.{interval_of, column_span, ranges_of}
use Rattle.slot_rows.proofs.SpanLaws.{column-modest}

-- the range of a column
pub range-at : (parts : Parts) (box : List Slot) (column : Column) → IsColumn (extent_of parts (length box)) column →
    range_of (ranges_of parts box) column ≡ interval_of (column_span parts box column)
unfolding ranges_of
range-at parts box column is =
    let extent = extent_of parts (length box) in
    get_or-map-range_with_len (λ j. interval_of (column_span parts box (column_at extent j))) 0 (count_of extent) (number_of extent column)
    (number_of extent column) zero_alone (number-below extent column is) (omega arith)
    ∙ ap (λ (c : Column). interval_of (column_span parts box c)) (number-back extent column is)

span-reach : (s : Span) (most : ℕ) → s.lo ≤ s.hi → s.hi ≤ most → reach_of (interval_of s) ≤ most
span-reach s most ordered small = omega arith

pub column-reach : (parts : Parts) (box : List Slot) (column : Column) → SoundPlant parts → IsBox box → IsColumn (extent_of parts (length box)) column →
    reach_of (range_of (ranges_of parts box) column) ≤ part_reach column.part
unfolding ranges_of
column-reach parts box column sound is there =
    let modest = column-modest parts box column sound is there in
    let most = part_reach column.part in
    subst (λ (range : Interval). reach_of range ≤ most) (sym (range-at parts box column there))
    (span-reach (column_span parts box column) most modest.ordered modest.small)

ordered-ranges : (parts : Parts) (box : List Slot) → SoundPlant parts → IsBox box → All (λ range. range.lo ≤ℤ range.hi) (ranges_of parts box).ends
unfolding ranges_of
ordered-ranges parts box sound is =
    let extent = extent_of parts (length box) in
    let f = λ (j : ℕ). interval_of (column_span parts box (column_at extent j)) in
    let count = length-map-range_with_len f 0 (count_of extent) in
    All-from_get_or (λ (range : Interval). range.lo ≤ℤ range.hi) (ranges_of parts box).ends zero_alone
    (λ j within.
    let below : j < count_of extent = omega arith in
    let at = get_or-map-range_with_len f 0 (count_of extent) j j zero_alone below (omega arith) in
    let modest = column-modest parts box (column_at extent j) sound is (column-there extent j below) in
    subst (λ (range : Interval). range.lo ≤ℤ range.hi) (sym at) (omega (arith, ints, modest.ordered)))

-- factors that are small over all that a column's number may be are small over its range
small-terms : (parts : Parts) (box : List Slot) (terms : List RowTerm) → SoundPlant parts → IsBox box → AreFitTerms parts (length box) terms →
    AreSmall (ranges_of parts box) terms
unfolding ranges_of
small-terms parts box terms sound is fit = λ k d within.
    product (unsigned_abs (get_or terms k d).factor) (reach_of (range_of (ranges_of parts box) (get_or terms k d).column))
    (part_reach (get_or terms k d).column.part)
    (column-reach parts box (get_or terms k d).column sound is (fit.columns k d within)) (fit.small k d within)
  where
    product : (a b c : ℕ) → b ≤ c → a * c < 2 ^ 60 → a * b < 2 ^ 60
    product a b c most small = let up = mul-le-mul_left a most in omega arith

pub weigh_fit_terms : (parts : Parts) (box : List Slot) → SoundPlant parts → IsBox box → WeighFitTerms parts (length box) (ranges_of parts box)
unfolding ranges_of
weigh_fit_terms parts box sound is terms fit =
    record { once = fit.once; columns = fit.columns; small = small-terms parts box terms sound is fit }

pub weigh_fit_rows : (parts : Parts) (box : List Slot) → SoundPlant parts → ColumnsAreFew parts → IsBox box →
    WeighFitRows parts (length box) (ranges_of parts box)
unfolding ranges_of
weigh_fit_rows parts box sound few is rows count fit = record {
  few_rows = count;
  few_columns = few (length box) is.most_slots;
  ordered = ordered-ranges parts box sound is;
  columns = λ k d within. (fit k d within).terms.columns;
  small_factors = λ k d within. small-terms parts box _ sound is (fit k d within).terms;
  small_rights = λ k d within. (fit k d within).right;
}
