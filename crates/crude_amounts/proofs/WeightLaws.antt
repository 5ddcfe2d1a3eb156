-- Laws of weighted sums.
use Rattle.std.proofs.Common.{◌≡◌, ℕ, zero, suc, ◌*◌, ◌<◌, ◌^◌, ◌≤◌, ℤ, pos, negsuc, neg_ℤ, ◌+ℤ◌, ◌*ℤ◌, ◌≤ℤ◌, List, [], ◌∷◌, length, take, get_or, ap, ◌∙◌, arith}
use Rattle.std.proofs.lemmas.Int.{ints, to_z-of_z}
use Rattle.std.proofs.Math.Nat.{mul-le-mul_right}
use Rattle.crude_amounts.specs.Amounts.{weighted_of}
use mir.Val.{SFits, to_z, of_z}
use mir.Syntax.{w64, w128}

-- a loop's step: crude i is weighed too
pub weighted_of_more : (amounts : List ℕ) (weights : List ℤ) (i : ℕ) → i < length amounts → i < length weights →
    weighted_of (take (suc i) amounts) weights ≡ weighted_of (take i amounts) weights +ℤ (get_or weights i (pos 0) *ℤ pos (get_or amounts i 0))
weighted_of_more [] weights i within weighed = absurd (omega arith)
weighted_of_more (amount ∷ amounts) [] i within weighed = absurd (omega arith)
weighted_of_more (amount ∷ amounts) (weight ∷ weights) zero within weighed = omega (arith, ints)
weighted_of_more (amount ∷ amounts) (weight ∷ weights) (suc i) within weighed =
    let later = weighted_of_more amounts weights i (omega arith) (omega arith) in
    omega (arith, ints)

-- a weight of 64 bits moves a sum by at most 2^63 for each unit
pub product-low : (weight : ℤ) (amount : ℕ) → SFits w64 weight → neg_ℤ (pos (2 ^ 63 * amount)) ≤ℤ (weight *ℤ pos amount)
product-low (pos n) amount fits = omega (arith, ints)
product-low (negsuc n) amount fits =
    let most : suc n ≤ 2 ^ 63 = omega (arith, ints) in
    let up : suc n * amount ≤ 2 ^ 63 * amount = mul-le-mul_right amount most in
    omega (arith, ints)

pub product-high : (weight : ℤ) (amount : ℕ) → SFits w64 weight → (weight *ℤ pos amount) ≤ℤ pos (2 ^ 63 * amount)
product-high (pos n) amount fits =
    let most : n ≤ 2 ^ 63 = omega (arith, ints) in
    let up : n * amount ≤ 2 ^ 63 * amount = mul-le-mul_right amount most in
    omega (arith, ints)
product-high (negsuc n) amount fits = omega (arith, ints)

-- a product that was computed in 128 bits from a weight of 64 bits and an amount of up to 2^40
pub computed_product : (weight x y : ℤ) (amount : ℕ) → x ≡ weight → y ≡ pos amount → SFits w64 weight → amount ≤ 2 ^ 40 →
    to_z w128 (of_z w128 (to_z w128 (of_z w128 x) *ℤ to_z w128 (of_z w128 y))) ≡ weight *ℤ pos amount
computed_product weight x y amount first second fits few =
    let x_fits : SFits w128 x = omega (arith, ints) in
    let y_fits : SFits w128 y = omega (arith, ints) in
    let low = product-low weight amount fits in
    let high = product-high weight amount fits in
    let product_fits : SFits w128 (weight *ℤ pos amount) = omega (arith, ints) in
    ap (λ (z : ℤ). to_z w128 (of_z w128 (z *ℤ to_z w128 (of_z w128 y)))) (to_z-of_z w128 x x_fits ∙ first)
    ∙ ap (λ (z : ℤ). to_z w128 (of_z w128 (weight *ℤ z))) (to_z-of_z w128 y y_fits ∙ second)
    ∙ to_z-of_z w128 (weight *ℤ pos amount) product_fits
