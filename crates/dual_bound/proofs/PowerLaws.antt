-- Powers of two as multipliers of one row: once their values do not fall, they fall no more.
use Rattle.std.proofs.Common.{◌≡◌, ℕ, suc, zero, ◌+◌, ◌-◌, ◌^◌, ◌<◌, ◌≤◌, List, [], length, get_or, replicate, ℤ, pos, ◌+ℤ◌, ◌-ℤ◌, ◌*ℤ◌, ◌≤ℤ◌, ap, ◌∙◌, arith}
use Rattle.std.proofs.Math.IntN.{zero-*ℤ}
use Rattle.std.proofs.lemmas.Int.{ints, clamps}
use Rattle.linear_form.specs.declared.ranges.Interval.{Interval}
use Rattle.linear_form.specs.declared.row.RowTerm.{RowTerm}
use Rattle.linear_form.specs.Bounds.{Bounds}
use Rattle.linear_form.specs.Columns.{Extent, count_of}
use Rattle.linear_form.specs.Rows.{RowForm}
use Rattle.number_laws.proofs.ProductLaws.{sum-product}
use Rattle.number_laws.proofs.SignedSumLaws.{total_below-le, total_below-sum}
use Rattle.dual_bound.specs.declared.system.System.{System}
use Rattle.dual_bound.specs.Dual.{factor_of, weight_of, most_in, range_at, dual_sum}
use Rattle.dual_bound.specs.Improving.{single}
use Rattle.dual_bound.specs.inside.Steps.{power_value, TurnsFrom}
use Rattle.dual_bound.specs.inside.Systems.{row_count, sum_in}
use Rattle.dual_bound.proofs.KeepLaws.{floor-one}
use Rattle.dual_bound.proofs.SingleLaws.{pairs-zeros, pairs-single}

-- ---- one column: what a weight earns lies below what those on both sides of it earn

end-twice : (u v w x m n : ℤ) → v +ℤ v ≡ u +ℤ w → (u *ℤ x) ≤ℤ m → (w *ℤ x) ≤ℤ n → ((v *ℤ x) +ℤ (v *ℤ x)) ≤ℤ (m +ℤ n)
end-twice u v w x m n same first second =
    let left = sum-product v v x in
    let right = sum-product u w x in
    let both : (v +ℤ v) *ℤ x ≡ (u +ℤ w) *ℤ x = ap (λ (z : ℤ). z *ℤ x) same in
    omega (arith, ints, left, right, both, first, second)

column-twice : (range : Interval) (u v w : ℤ) → v +ℤ v ≡ u +ℤ w →
    (most_in range v +ℤ most_in range v) ≤ℤ (most_in range u +ℤ most_in range w)
column-twice range u v w same =
    let low = end-twice u v w range.lo (most_in range u) (most_in range w) same (omega (arith, ints, clamps)) (omega (arith, ints, clamps)) in
    let high = end-twice u v w range.hi (most_in range u) (most_in range w) same (omega (arith, ints, clamps)) (omega (arith, ints, clamps)) in
    omega (arith, ints, clamps, low, high)

end-thrice : (u v w x m n : ℤ) → v +ℤ (v +ℤ v) ≡ u +ℤ (u +ℤ w) → (u *ℤ x) ≤ℤ m → (w *ℤ x) ≤ℤ n →
    ((v *ℤ x) +ℤ ((v *ℤ x) +ℤ (v *ℤ x))) ≤ℤ (m +ℤ (m +ℤ n))
end-thrice u v w x m n same first second =
    let left = sum-product v (v +ℤ v) x in
    let left_rest = sum-product v v x in
    let right = sum-product u (u +ℤ w) x in
    let right_rest = sum-product u w x in
    let both : (v +ℤ (v +ℤ v)) *ℤ x ≡ (u +ℤ (u +ℤ w)) *ℤ x = ap (λ (z : ℤ). z *ℤ x) same in
    omega (arith, ints, left, left_rest, right, right_rest, both, first, second)

column-thrice : (range : Interval) (u v w : ℤ) → v +ℤ (v +ℤ v) ≡ u +ℤ (u +ℤ w) →
    (most_in range v +ℤ (most_in range v +ℤ most_in range v)) ≤ℤ (most_in range u +ℤ (most_in range u +ℤ most_in range w))
column-thrice range u v w same =
    let low = end-thrice u v w range.lo (most_in range u) (most_in range w) same (omega (arith, ints, clamps)) (omega (arith, ints, clamps)) in
    let high = end-thrice u v w range.hi (most_in range u) (most_in range w) same (omega (arith, ints, clamps)) (omega (arith, ints, clamps)) in
    omega (arith, ints, clamps, low, high)

-- ---- one row

no_row : RowForm
no_row = record { terms = []; right = pos 0 }

double : (y : ℕ) (z : ℤ) → pos (y + y) *ℤ z ≡ (pos y *ℤ z) +ℤ (pos y *ℤ z)
double y z =
    let whole : pos (y + y) ≡ pos y +ℤ pos y = omega (arith, ints) in
    ap (λ (x : ℤ). x *ℤ z) whole ∙ sum-product (pos y) (pos y) z

once : (z : ℤ) → pos 1 *ℤ z ≡ z
once z = omega (arith, ints)

weight-power : (extent : Extent) (rows : List RowForm) (objective : List RowTerm) (n r y : ℕ) → r < n → r < length rows → (j : ℕ) →
    weight_of extent rows objective (single n r y) 1 j
    ≡ weight_of extent rows objective (replicate n 0) 1 j -ℤ (pos y *ℤ factor_of extent j (get_or rows r no_row).terms)
weight-power extent rows objective n r y first second j =
    let f = λ (x : ℕ) (form : RowForm). pos x *ℤ factor_of extent j form.terms in
    let one = pairs-single f n r y rows no_row (λ form. zero-*ℤ (factor_of extent j form.terms)) first second in
    let none = pairs-zeros f n rows (λ form. zero-*ℤ (factor_of extent j form.terms)) in
    omega (arith, ints, one, none)

sums-twice : (rows : List RowForm) (bounds : Bounds) (objective : List RowTerm) (n r : ℕ) → r < n → r < length rows →
    (dual_sum rows bounds objective (single n r 1) 1 +ℤ dual_sum rows bounds objective (single n r 1) 1)
    ≤ℤ (dual_sum rows bounds objective (replicate n 0) 1 +ℤ dual_sum rows bounds objective (single n r 2) 1)
sums-twice rows bounds objective n r first second =
    let count = count_of bounds.extent in
    let row = get_or rows r no_row in
    let rights = λ (x : ℕ) (form : RowForm). pos x *ℤ form.right in
    let weight = λ (y j : ℕ). weight_of bounds.extent rows objective (single n r y) 1 j in
    let zeros = λ (j : ℕ). most_in (range_at bounds j) (weight_of bounds.extent rows objective (replicate n 0) 1 j) in
    let most = λ (y j : ℕ). most_in (range_at bounds j) (weight y j) in
    let none = pairs-zeros rights n rows (λ form. zero-*ℤ form.right) in
    let one = pairs-single rights n r 1 rows no_row (λ form. zero-*ℤ form.right) first second in
    let two = pairs-single rights n r 2 rows no_row (λ form. zero-*ℤ form.right) first second in
    let rights_double = double 1 row.right in
    let each = total_below-le count (λ j. most 1 j +ℤ most 1 j) (λ j. zeros j +ℤ most 2 j)
    (λ j below.
    let at_one = weight-power bounds.extent rows objective n r 1 first second j in
    let at_two = weight-power bounds.extent rows objective n r 2 first second j in
    let twice = double 1 (factor_of bounds.extent j row.terms) in
    column-twice (range_at bounds j) (weight_of bounds.extent rows objective (replicate n 0) 1 j) (weight 1 j) (weight 2 j)
    (omega (arith, ints, at_one, at_two, twice))) in
    let left = total_below-sum count (most 1) (most 1) in
    let right = total_below-sum count zeros (most 2) in
    omega (arith, ints, none, one, two, rights_double, each, left, right)

sums-thrice : (rows : List RowForm) (bounds : Bounds) (objective : List RowTerm) (n r y : ℕ) → r < n → r < length rows →
    (dual_sum rows bounds objective (single n r (y + y)) 1
    +ℤ (dual_sum rows bounds objective (single n r (y + y)) 1 +ℤ dual_sum rows bounds objective (single n r (y + y)) 1))
    ≤ℤ (dual_sum rows bounds objective (single n r y) 1
    +ℤ (dual_sum rows bounds objective (single n r y) 1 +ℤ dual_sum rows bounds objective (single n r ((y + y) + (y + y))) 1))
sums-thrice rows bounds objective n r y first second =
    let count = count_of bounds.extent in
    let row = get_or rows r no_row in
    let rights = λ (x : ℕ) (form : RowForm). pos x *ℤ form.right in
    let weight = λ (x j : ℕ). weight_of bounds.extent rows objective (single n r x) 1 j in
    let most = λ (x j : ℕ). most_in (range_at bounds j) (weight x j) in
    let one = pairs-single rights n r y rows no_row (λ form. zero-*ℤ form.right) first second in
    let two = pairs-single rights n r (y + y) rows no_row (λ form. zero-*ℤ form.right) first second in
    let four = pairs-single rights n r ((y + y) + (y + y)) rows no_row (λ form. zero-*ℤ form.right) first second in
    let rights_double = double y row.right in
    let rights_again = double (y + y) row.right in
    let each = total_below-le count (λ j. most (y + y) j +ℤ (most (y + y) j +ℤ most (y + y) j))
    (λ j. most y j +ℤ (most y j +ℤ most ((y + y) + (y + y)) j))
    (λ j below.
    let at_one = weight-power bounds.extent rows objective n r y first second j in
    let at_two = weight-power bounds.extent rows objective n r (y + y) first second j in
    let at_four = weight-power bounds.extent rows objective n r ((y + y) + (y + y)) first second j in
    let twice = double y (factor_of bounds.extent j row.terms) in
    let again = double (y + y) (factor_of bounds.extent j row.terms) in
    column-thrice (range_at bounds j) (weight y j) (weight (y + y) j) (weight ((y + y) + (y + y)) j)
    (omega (arith, ints, at_one, at_two, at_four, twice, again))) in
    let left = total_below-sum count (most (y + y)) (λ j. most (y + y) j +ℤ most (y + y) j) in
    let left_rest = total_below-sum count (most (y + y)) (most (y + y)) in
    let right = total_below-sum count (most y) (λ j. most y j +ℤ most ((y + y) + (y + y)) j) in
    let right_rest = total_below-sum count (most y) (most ((y + y) + (y + y))) in
    omega (arith, ints, one, two, four, rights_double, rights_again, each, left, left_rest, right, right_rest)

-- ---- numbers that once they do not fall, fall no more

rises : (f : ℕ → ℤ) → ((k : ℕ) → f k ≤ℤ f (suc k) → f (suc k) ≤ℤ f (suc (suc k))) → (j k : ℕ) → f k ≤ℤ f (suc k) → f k ≤ℤ f (j + k)
rises f law zero k up = let same : 0 + k ≡ k = omega arith in rw same (omega (arith, ints))
rises f law (suc j) k up =
    let next = rises f law j (suc k) (law k up) in
    let same : j + suc k ≡ suc j + k = omega arith in
    let rest : f (suc k) ≤ℤ f (suc j + k) = rw same at next in
    omega (arith, ints, up, rest)

-- ---- the values of powers

power-sum : (system : System) (r k : ℕ) →
    power_value system r k
    ≡ dual_sum system.rows.now system.ranges.now system.objective.now (single (row_count system) r (2 ^ k)) 1
power-sum system r k = floor-one (dual_sum system.rows.now system.ranges.now system.objective.now (single (row_count system) r (2 ^ k)) 1)

powers-thrice : (system : System) (r : ℕ) → r < row_count system → (k : ℕ) → power_value system r k ≤ℤ power_value system r (suc k) →
    power_value system r (suc k) ≤ℤ power_value system r (suc (suc k))
powers-thrice system r there k up =
    let y = 2 ^ k in
    let next : 2 ^ suc k ≡ y + y = omega arith in
    let last : 2 ^ suc (suc k) ≡ (y + y) + (y + y) = omega arith in
    let law = sums-thrice system.rows.now system.ranges.now system.objective.now (row_count system) r y there there in
    let whole = rw (← last, ← next) at law in
    let first = power-sum system r k in
    let second = power-sum system r (suc k) in
    let third = power-sum system r (suc (suc k)) in
    omega (arith, ints, whole, first, second, third, up)

from : (system : System) (r : ℕ) → r < row_count system → (k : ℕ) → power_value system r k ≤ℤ power_value system r (suc k) → (j : ℕ) → k ≤ j →
    power_value system r k ≤ℤ power_value system r j
from system r there k up j later =
    let rest = rises (power_value system r) (powers-thrice system r there) (j - k) k up in
    let same : (j - k) + k ≡ j = omega arith in
    rw same at rest

pub turns-after : (system : System) (r : ℕ) → r < row_count system → (k : ℕ) → TurnsFrom system r (power_value system r k) (k + 1)
turns-after system r there k = λ up j later.
    let next : k + 1 ≡ suc k = omega arith in
    let above : power_value system r k ≤ℤ power_value system r (suc k) = rw next at up in
    let rest = from system r there (suc k) (powers-thrice system r there k above) j (omega arith) in
    rw (← next) at rest

pub turns-first : (system : System) (r : ℕ) → r < row_count system → TurnsFrom system r (sum_in system (replicate (row_count system) 0) 1) 0
turns-first system r there = λ up j later.
    let law = sums-twice system.rows.now system.ranges.now system.objective.now (row_count system) r there there in
    let first = power-sum system r 0 in
    let second = power-sum system r 1 in
    from system r there 0 (omega (arith, ints, law, first, second, up)) j later
