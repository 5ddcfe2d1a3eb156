-- The least that an objective comes to over ranges, as the emptiness sum of its opposite.
use Rattle.std.proofs.Common.{◌≡◌, ℕ, List, [], ◌∷◌, ℤ, pos, negsuc, ◌+ℤ◌, ◌*ℤ◌, neg_ℤ, ◌≤ℤ◌, ◌<ℤ◌, arith}
use Rattle.std.proofs.lemmas.Int.{ints, clamps}
use Rattle.std.proofs.lemmas.List.Elements.{All-cons}
use Rattle.linear_form.specs.declared.ranges.Interval.{Interval}
use Rattle.linear_form.specs.declared.row.RowTerm.{RowTerm}
use Rattle.linear_form.specs.Bounds.{Bounds}
use Rattle.linear_form.specs.Columns.{count_of}
use Rattle.linear_form.specs.Points.{IsMet, value_at}
use Rattle.linear_form.specs.Rows.{RowForm}
use Rattle.number_laws.specs.SignedSums.{total_below}
use Rattle.number_laws.proofs.FloorLaws.{floors_are_greatest}
use Rattle.number_laws.proofs.ProductLaws.{sum-product, product-assoc, product-monotone, product-negative, negative-product}
use Rattle.number_laws.proofs.SignedSumLaws.{total_below-le, total_below-sum, total_below-scaled}
use Rattle.dual_bound.specs.Conditions.{AreColumns}
use Rattle.dual_bound.specs.Dual.{factor_of, weighed_factor, weight_of, most_in, range_at, dual_sum, dual_value, emptiness_sum}
use Rattle.dual_bound.specs.Laws.{against, greatest_loss, LowValuesAreContradictions, PointsAreAboveLeast}
use Rattle.dual_bound.proofs.DualLaws.{sum-above}

-- ---- one column

end-most : (u w x m n : ℤ) (q : ℕ) → ((u +ℤ (pos q *ℤ w)) *ℤ x) ≤ℤ m → (neg_ℤ w *ℤ x) ≤ℤ n → (u *ℤ x) ≤ℤ (m +ℤ (pos q *ℤ n))
end-most u w x m n q first second =
    let split = sum-product u (pos q *ℤ w) x in
    let again = product-assoc (pos q) w x in
    let opposite = negative-product w x in
    let times = product-monotone q (neg_ℤ w *ℤ x) n second in
    let negative = product-negative (pos q) (w *ℤ x) in
    omega (arith, ints, split, again, rw opposite at times, negative, first)

column-most : (range : Interval) (u w : ℤ) (q : ℕ) →
    most_in range u ≤ℤ (most_in range (u +ℤ (pos q *ℤ w)) +ℤ (pos q *ℤ most_in range (neg_ℤ w)))
column-most range u w q =
    let v = u +ℤ (pos q *ℤ w) in
    let low = end-most u w range.lo (most_in range v) (most_in range (neg_ℤ w)) q (omega (arith, ints, clamps)) (omega (arith, ints, clamps)) in
    let high = end-most u w range.hi (most_in range v) (most_in range (neg_ℤ w)) q (omega (arith, ints, clamps)) (omega (arith, ints, clamps)) in
    omega (arith, ints, clamps, low, high)

-- ---- all columns

-- the opposite has the opposite factors
against-weight : (bounds : Bounds) (objective : List RowTerm) (j : ℕ) →
    weight_of bounds.extent (against objective ∷ []) [] (1 ∷ []) 1 j ≡ neg_ℤ (factor_of bounds.extent j objective)
against-weight bounds objective j = omega (arith, ints)

columns-most : (rows : List RowForm) (bounds : Bounds) (objective : List RowTerm) (ys : List ℕ) (q : ℕ) →
    total_below (count_of bounds.extent) (λ j. most_in (range_at bounds j) (weight_of bounds.extent rows [] ys 1 j))
    ≤ℤ (total_below (count_of bounds.extent) (λ j. most_in (range_at bounds j) (weight_of bounds.extent rows objective ys q j))
    +ℤ (pos q *ℤ total_below (count_of bounds.extent) (λ j. most_in (range_at bounds j) (weight_of bounds.extent (against objective ∷ []) [] (1 ∷ []) 1 j))))
columns-most rows bounds objective ys q =
    let n = count_of bounds.extent in
    let empty = λ (j : ℕ). most_in (range_at bounds j) (weight_of bounds.extent rows [] ys 1 j) in
    let most = λ (j : ℕ). most_in (range_at bounds j) (weight_of bounds.extent rows objective ys q j) in
    let loss = λ (j : ℕ). most_in (range_at bounds j) (weight_of bounds.extent (against objective ∷ []) [] (1 ∷ []) 1 j) in
    let each = total_below-le n empty (λ j. most j +ℤ (pos q *ℤ loss j))
    (λ j below.
    let c = factor_of bounds.extent j objective in
    let a = weighed_factor bounds.extent ys rows j in
    let here = column-most (range_at bounds j) (neg_ℤ a) c q in
    let first : weight_of bounds.extent rows [] ys 1 j ≡ neg_ℤ a = omega (arith, ints) in
    let second : weight_of bounds.extent rows objective ys q j ≡ neg_ℤ a +ℤ (pos q *ℤ c) = omega (arith, ints) in
    rw (first, second, against-weight bounds objective j) here) in
    let parts = total_below-sum n most (λ j. pos q *ℤ loss j) in
    let scaled = total_below-scaled n (pos q) loss in
    omega (arith, ints, each, parts, scaled)

sums-above : (rows : List RowForm) (bounds : Bounds) (objective : List RowTerm) (ys : List ℕ) (q : ℕ) →
    emptiness_sum rows bounds ys ≤ℤ (dual_sum rows bounds objective ys q +ℤ (pos q *ℤ greatest_loss bounds objective))
sums-above rows bounds objective ys q =
    let columns = columns-most rows bounds objective ys q in
    let n = count_of bounds.extent in
    let loss = total_below n (λ j. most_in (range_at bounds j) (weight_of bounds.extent (against objective ∷ []) [] (1 ∷ []) 1 j)) in
    let whole : greatest_loss bounds objective ≡ loss = omega (arith, ints) in
    rw whole (omega (arith, ints, columns))

pub low_values-are_contradictions : LowValuesAreContradictions
low_values-are_contradictions rows bounds objective ys q some low =
    let loss = greatest_loss bounds objective in
    let sum = dual_sum rows bounds objective ys q in
    let above = sums-above rows bounds objective ys q in
    let greatest = (floors_are_greatest sum q some).greatest (neg_ℤ loss) in
    let times = product-negative (pos q) loss in
    by_cases (emptiness_sum rows bounds ys) loss sum above greatest times low
  where
    by_cases : (e loss sum : ℤ) → e ≤ℤ (sum +ℤ (pos q *ℤ loss)) → ((pos q *ℤ neg_ℤ loss) ≤ℤ sum → neg_ℤ loss ≤ℤ dual_value rows bounds objective ys q)
        → (pos q *ℤ neg_ℤ loss) ≡ neg_ℤ (pos q *ℤ loss) → dual_value rows bounds objective ys q <ℤ neg_ℤ loss → e <ℤ pos 0
    by_cases (pos e) loss sum above greatest times low = absurd (omega (arith, ints, low, greatest (omega (arith, ints, above, times))))
    by_cases (negsuc e) loss sum above greatest times low = omega (arith, ints)

-- ---- points

pub points-are_above : PointsAreAboveLeast
points-are_above bounds objective point few columns inside =
    let value = value_at objective point in
    let row : RowForm = record { terms = objective; right = value } in
    let met = sum-above (row ∷ []) bounds [] (1 ∷ []) 1 point few (All-cons (λ (r : RowForm). AreColumns bounds.extent r.terms) row [] columns (λ k d below. absurd (omega arith))) (λ k d below. absurd (omega arith))
    (All-cons (λ (r : RowForm). IsMet point r) row [] (omega (arith, ints)) (λ k d below. absurd (omega arith))) inside in
    omega (arith, ints, met)
