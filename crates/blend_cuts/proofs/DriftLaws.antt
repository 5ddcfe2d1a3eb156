-- By how much one draw drifts: the positive excess of the draw and of what it leaves.
use Rattle.std.proofs.Common.{◌≡◌, ℕ, suc, ◌+◌, ◌-◌, ◌*◌, ◌<◌, ◌≤◌, ℤ, unsigned_abs, pos, negsuc, neg_ℤ, ◌+ℤ◌, ◌-ℤ◌, ◌*ℤ◌, ◌≤ℤ◌, inl, inr, ap, arith}
use Rattle.std.proofs.lemmas.Bool.{cases_lt}
use Rattle.std.proofs.lemmas.Int.{ints}
use Rattle.std.proofs.Math.Nat.{mul-le-mul_left, mul-le-mul_right}
use Rattle.number_laws.specs.Positive.{positive_part}
use Rattle.number_laws.proofs.PositiveLaws.{positive_part-above, positive_part-least}
use Rattle.number_laws.proofs.ProductLaws.{product-sum, sum-product, product-monotone}

-- a positive factor is taken off both sides
cancelled : (t a b : ℕ) → 0 < t → t * a ≤ t * b → a ≤ b
cancelled t a b some times =
    elim (cases_lt b a) [
      | inl more ↦
          let up : t * suc b ≤ t * a = mul-le-mul_left t more in
          absurd (omega (arith, times, up, some))
      | inr within ↦ within
    ]

cancelled-signed : (t : ℕ) (z : ℤ) (b : ℕ) → 0 < t → (pos t *ℤ z) ≤ℤ pos (t * b) → z ≤ℤ pos b
cancelled-signed t (pos k) b some times =
    let natural : t * k ≤ t * b = omega (arith, ints, times) in
    let within = cancelled t k b some natural in
    omega (arith, ints, within)
cancelled-signed t (negsuc k) b some times = omega (arith, ints)

-- an absolute value bounds its number from both sides
abs-both : (z : ℤ) (n : ℕ) → unsigned_abs z ≤ n → (neg_ℤ (pos n) ≤ℤ z) × (z ≤ℤ pos n)
abs-both (pos k) n within = (omega (arith, ints), omega (arith, ints))
abs-both (negsuc k) n within = (omega (arith, ints), omega (arith, ints))

-- so much of the excess of what is there falls to the draw, and the rest to what it leaves; either is at most the whole
share-drawn : (total volume : ℕ) (e : ℤ) → volume ≤ total → (pos volume *ℤ e) ≤ℤ pos (total * positive_part e)
share-drawn total volume e within =
    let most = product-monotone volume e (pos (positive_part e)) (positive_part-above e) in
    let up : volume * positive_part e ≤ total * positive_part e = mul-le-mul_right (positive_part e) within in
    omega (arith, ints, most, up)

share-left : (total volume : ℕ) (e : ℤ) → volume ≤ total → ((pos total *ℤ e) -ℤ (pos volume *ℤ e)) ≤ℤ pos (total * positive_part e)
share-left total volume e within =
    let whole : pos volume +ℤ pos (total - volume) ≡ pos total = omega (arith, ints, within) in
    let split = sum-product (pos volume) (pos (total - volume)) e in
    let total_is = ap (λ (z : ℤ). z *ℤ e) whole in
    let rest = share-drawn total (total - volume) e (omega arith) in
    omega (arith, ints, split, total_is, rest)

-- where the draw has an excess, so has no more of it what is left
drifts-above : (e : ℤ) (m d : ℕ) → m ≤ positive_part e + d → positive_part (e -ℤ pos m) + m ≤ positive_part e + d
drifts-above e m d most =
    let above = positive_part-above e in
    elim (cases_lt (positive_part e) m) [
      | inl more ↦
          let none = positive_part-least (e -ℤ pos m) 0 (omega (arith, ints, above, more)) in
          omega (arith, most, none)
      | inr less ↦
          let left = positive_part-least (e -ℤ pos m) (positive_part e - m) (omega (arith, ints, above, less)) in
          omega (arith, left, less)
    ]

-- what is drawn of so much exceeds the threshold by x, and what is there by e: by its share, but for d
pub draw_drifts : (total volume : ℕ) (e x : ℤ) (d : ℕ) → 1 ≤ volume → volume ≤ total →
    unsigned_abs ((pos total *ℤ x) -ℤ (pos volume *ℤ e)) ≤ total * d → positive_part (e -ℤ x) + positive_part x ≤ positive_part e + d
draw_drifts total volume e (pos m) d some within near =
    let both = abs-both ((pos total *ℤ pos m) -ℤ (pos volume *ℤ e)) (total * d) near in
    let share = share-drawn total volume e within in
    let high = both.1 in
    let times : total * m ≤ total * (positive_part e + d) = omega (arith, ints, high, share) in
    drifts-above e m d (cancelled total m (positive_part e + d) (omega arith) times)
draw_drifts total volume e (negsuc m) d some within near =
    let both = abs-both ((pos total *ℤ negsuc m) -ℤ (pos volume *ℤ e)) (total * d) near in
    let share = share-left total volume e within in
    let low = both.0 in
    let split = product-sum (pos total) e (pos (suc m)) in
    let times : (pos total *ℤ (e +ℤ pos (suc m))) ≤ℤ pos (total * (positive_part e + d)) = omega (arith, ints, low, share, split) in
    let most = cancelled-signed total (e +ℤ pos (suc m)) (positive_part e + d) (omega arith) times in
    let left = positive_part-least (e -ℤ negsuc m) (positive_part e + d) (omega (arith, ints, most)) in
    omega (arith, left)
