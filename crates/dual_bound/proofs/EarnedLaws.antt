-- The most that a weight earns in a range.
use Rattle.std.proofs.Common.{ℕ, suc, ◌*◌, ◌^◌, ◌≤◌, Bool, true, false, cond, length, ℤ, pos, negsuc, neg_ℤ, ◌*ℤ◌, ◌≤ℤ◌, arith, unsigned_abs, int_lt, List, slice_index_or}
use Rattle.std.proofs.lemmas.Int.{ints, clamps, unsigned_abs-mul}
use Rattle.std.specs.Int.{int_max}
use Rattle.linear_form.specs.declared.ranges.Interval.{Interval}
use Rattle.linear_form.specs.Bounds.{zero_alone}
use Rattle.number_laws.specs.SignedSums.{total_below}
use Rattle.number_laws.proofs.ProductLaws.{product-monotone, negative-product}
use Rattle.number_laws.proofs.SignedSumLaws.{total_below-abs}
use Rattle.dual_bound.specs.inside.Cells.{HaveRoom}
use Rattle.dual_bound.specs.Conditions.{reach_of}
use Rattle.dual_bound.specs.Dual.{most_in}

chosen-size : (b : Bool) (x y : ℤ) (n : ℕ) → unsigned_abs x ≤ n → unsigned_abs y ≤ n → unsigned_abs (cond b x y) ≤ n
chosen-size true x y n first second = first
chosen-size false x y n first second = second

end-size : (weight end : ℤ) (reach n : ℕ) → unsigned_abs end ≤ reach → unsigned_abs weight * reach ≤ n → unsigned_abs (weight *ℤ end) ≤ n
end-size weight end reach n within room =
    let size = unsigned_abs-mul weight end in
    let less : unsigned_abs weight * unsigned_abs end ≤ unsigned_abs weight * reach = grind arith in
    omega (arith, size, less, room)

pub most_in-size : (range : Interval) (weight : ℤ) (n : ℕ) → unsigned_abs weight * reach_of range ≤ n → unsigned_abs (most_in range weight) ≤ n
most_in-size range weight n room =
    chosen-size (int_lt (weight *ℤ range.hi) (weight *ℤ range.lo)) (weight *ℤ range.lo) (weight *ℤ range.hi) n
    (end-size weight range.lo (reach_of range) n (omega arith) room) (end-size weight range.hi (reach_of range) n (omega arith) room)

pub part-size : (ranges : List Interval) (weights : List ℤ) (n : ℕ) → HaveRoom ranges weights → n ≤ length ranges →
    unsigned_abs (total_below n (λ k. most_in (slice_index_or ranges k zero_alone) (slice_index_or weights k (pos 0)))) ≤ n * 2 ^ 104
part-size ranges weights n room there =
    total_below-abs n (2 ^ 104) (λ k. most_in (slice_index_or ranges k zero_alone) (slice_index_or weights k (pos 0)))
    (λ k below. most_in-size (slice_index_or ranges k zero_alone) (slice_index_or weights k (pos 0)) (2 ^ 104) (room k (omega arith)))

-- ---- any number of the range earns no more

between_up : (n : ℕ) (lo hi x : ℤ) → lo ≤ℤ x → x ≤ℤ hi → (pos n *ℤ x) ≤ℤ int_max (pos n *ℤ lo) (pos n *ℤ hi)
between_up n lo hi x from to = let high = product-monotone n x hi to in omega (arith, ints, clamps, high)

between_down : (n : ℕ) (lo hi x : ℤ) → lo ≤ℤ x → x ≤ℤ hi → (neg_ℤ (pos n) *ℤ x) ≤ℤ int_max (neg_ℤ (pos n) *ℤ lo) (neg_ℤ (pos n) *ℤ hi)
between_down n lo hi x from to =
    let low = product-monotone n lo x from in
    let here = negative-product (pos n) x in
    let there = negative-product (pos n) lo in
    omega (arith, ints, clamps, low, here, there)

pub most_in-above : (weight lo hi x : ℤ) → lo ≤ℤ x → x ≤ℤ hi → (weight *ℤ x) ≤ℤ int_max (weight *ℤ lo) (weight *ℤ hi)
most_in-above (pos n) lo hi x from to = between_up n lo hi x from to
most_in-above (negsuc n) lo hi x from to = between_down (suc n) lo hi x from to

pub most_in-narrower : (weight : ℤ) (inner outer : Interval) → outer.lo ≤ℤ inner.lo → inner.lo ≤ℤ inner.hi → inner.hi ≤ℤ outer.hi →
    most_in inner weight ≤ℤ most_in outer weight
most_in-narrower weight inner outer low order high =
    let first = most_in-above weight outer.lo outer.hi inner.lo low (omega (arith, ints)) in
    let second = most_in-above weight outer.lo outer.hi inner.hi (omega (arith, ints)) high in
    omega (arith, ints, clamps, first, second)
