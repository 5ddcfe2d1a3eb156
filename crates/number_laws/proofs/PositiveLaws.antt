-- Laws of the positive part.
use Rattle.std.proofs.Common.{◌≡◌, ℕ, suc, zero, ◌+◌, ◌-◌, ◌*◌, ◌≤◌, ℤ, pos, negsuc, ◌+ℤ◌, ◌*ℤ◌, ◌≤ℤ◌, subst, arith}
use Rattle.std.proofs.lemmas.Int.{ints, clamps}
use Rattle.std.specs.Int.{int_max}
use Rattle.number_laws.specs.Positive.{positive_part, IsLeastAbove}

pub positive_part-above : (z : ℤ) → z ≤ℤ pos (positive_part z)
positive_part-above (pos n) = omega (arith, ints)
positive_part-above (negsuc n) = omega (arith, ints)

pub positive_part-least : (z : ℤ) (n : ℕ) → z ≤ℤ pos n → positive_part z ≤ n
positive_part-least (pos m) n below = omega (arith, ints)
positive_part-least (negsuc m) n below = omega arith

pub positive_part_is_least : (z : ℤ) → IsLeastAbove z (positive_part z)
positive_part_is_least z = record { above = positive_part-above z; least = positive_part-least z }

pub positive_part-monotone : (y z : ℤ) → y ≤ℤ z → positive_part y ≤ positive_part z
positive_part-monotone y z below = positive_part-least y (positive_part z) (let above = positive_part-above z in omega (arith, ints))

pub positive_part-sum : (y z : ℤ) → positive_part (y +ℤ z) ≤ positive_part y + positive_part z
positive_part-sum y z = positive_part-least (y +ℤ z) (positive_part y + positive_part z) (let first = positive_part-above y in
    let second = positive_part-above z in omega (arith, ints))

pub positive_part-scaled : (k : ℕ) (z : ℤ) → positive_part (pos k *ℤ z) ≡ k * positive_part z
positive_part-scaled k (pos n) = grind (arith, ints)
positive_part-scaled zero (negsuc n) = grind (arith, ints)
positive_part-scaled (suc k) (negsuc n) = grind (arith, ints)

pub positive_part-times : (z : ℤ) (k : ℕ) → positive_part (z *ℤ pos k) ≡ positive_part z * k
positive_part-times (pos n) k = grind (arith, ints)
positive_part-times (negsuc n) zero = grind (arith, ints)
positive_part-times (negsuc n) (suc k) = grind (arith, ints)

-- d steps up from low cost at most the positive part each
pub multiple-steps_up : (z : ℤ) (low d : ℕ) → (z *ℤ pos (low + d)) ≤ℤ ((z *ℤ pos low) +ℤ pos (positive_part z * d))
multiple-steps_up (pos n) low d = grind (arith, ints)
multiple-steps_up (negsuc n) low d = grind (arith, ints)

pub multiple-from_low : (z : ℤ) (low x : ℕ) → low ≤ x → (z *ℤ pos x) ≤ℤ ((z *ℤ pos low) +ℤ pos (positive_part z * (x - low)))
multiple-from_low z low x from =
    let e : low + (x - low) ≡ x = omega arith in
    subst (λ (y : ℕ). (z *ℤ pos y) ≤ℤ ((z *ℤ pos low) +ℤ pos (positive_part z * (x - low)))) e (multiple-steps_up z low (x - low))

pub multiple-between : (z : ℤ) (low high x : ℕ) → low ≤ x → x ≤ high → (z *ℤ pos x) ≤ℤ ((z *ℤ pos low) +ℤ pos (positive_part z * (high - low)))
multiple-between z low high x from to =
    let step = multiple-from_low z low x from in
    let room : positive_part z * (x - low) ≤ positive_part z * (high - low) = grind arith in
    omega (arith, ints, step, room)

-- the greater of the multiples at the ends
greater_end : (z : ℤ) (low d : ℕ) → int_max (z *ℤ pos low) (z *ℤ pos (low + d)) ≡ (z *ℤ pos low) +ℤ pos (positive_part z * d)
greater_end (pos n) low d = omega (arith, ints, clamps)
greater_end (negsuc n) low d = omega (arith, ints, clamps)

pub multiple-greater_end : (z : ℤ) (low high : ℕ) → low ≤ high → int_max (z *ℤ pos low) (z *ℤ pos high) ≡ (z *ℤ pos low) +ℤ pos (positive_part z * (high - low))
multiple-greater_end z low high order =
    let e : low + (high - low) ≡ high = omega arith in
    subst (λ (y : ℕ). int_max (z *ℤ pos low) (z *ℤ pos y) ≡ (z *ℤ pos low) +ℤ pos (positive_part z * (high - low))) e (greater_end z low (high - low))
