-- A draw weighs nearly what its share of the mix does.
use Rattle.std.proofs.Common.{◌≡◌, ℕ, zero, suc, ◌+◌, ◌-◌, ◌*◌, ◌<◌, ◌≤◌, ℤ, unsigned_abs, pos, negsuc, neg_ℤ, ◌+ℤ◌, ◌-ℤ◌, ◌*ℤ◌, ◌≤ℤ◌, List, [], ◌∷◌, length, sum, refl, sym, ap, ◌∙◌, arith}
use Rattle.std.proofs.lemmas.Int.{ints}
use Rattle.std.proofs.Math.Nat.{mul-le-mul_left, mul-le-mul_right}
use Rattle.number_laws.proofs.ProductLaws.{product-sum, product-negative, difference-product}
use Rattle.crude_amounts.specs.Draw.{share_of, draw_from, draw_of}
use Rattle.crude_amounts.specs.Amounts.{weighted_of}
use Rattle.crude_amounts.specs.Blend.{variation_of, IsNearlyShared}
use Rattle.crude_amounts.proofs.ShareLaws.{share_of-floor, share_of-next, share_of-nothing, share_of-all, share_of-monotone}
use Rattle.crude_amounts.proofs.DrawLaws.{sum-cons}

-- what a share lacks of the exact one, times the total
lack_of : ℕ → ℕ → ℕ → ℕ
lack_of total volume reached = reached * volume - share_of total volume reached * total

lack_of-below : (total volume reached : ℕ) → 0 < total → lack_of total volume reached ≤ total
unfolding lack_of
lack_of-below total volume reached some = (let next = share_of-next total volume reached some in omega arith)

lack_of-nothing : (total volume : ℕ) → 0 < total → lack_of total volume 0 ≡ 0
unfolding lack_of
lack_of-nothing total volume some = omega arith

lack_of-all : (total volume : ℕ) → 0 < total → lack_of total volume total ≡ 0
unfolding lack_of
lack_of-all total volume some = (let all = ap (λ (n : ℕ). n * total) (share_of-all total volume some) in omega arith)

-- what is drawn of a crude is its exact share, but for what the shares up to it and before it lack
lack_of-step : (total volume reached amount : ℕ) → 0 < total →
    total * (share_of total volume (reached + amount) - share_of total volume reached) + lack_of total volume (reached + amount)
    ≡ volume * amount + lack_of total volume reached
unfolding lack_of
lack_of-step total volume reached amount some =
    let before = share_of total volume reached in
    let after = share_of total volume (reached + amount) in
    let floor = share_of-floor total volume reached in
    let floor_after = share_of-floor total volume (reached + amount) in
    let up = share_of-monotone total volume reached (reached + amount) some (omega arith) in
    let split : before + (after - before) ≡ after = omega arith in
    let whole : (before + (after - before)) * total ≡ after * total = ap (λ (n : ℕ). n * total) split in
    omega arith

-- the last of the weights
last_of : ℤ → List ℤ → ℤ
last_of weight [] = weight
last_of weight (next ∷ weights) = last_of next weights

times_high : (z : ℤ) (n most : ℕ) → n ≤ most → (z *ℤ pos n) ≤ℤ pos (unsigned_abs z * most)
times_high (pos k) n most few = (let up : k * n ≤ k * most = mul-le-mul_left k few in omega (arith, ints))
times_high (negsuc k) n most few = omega (arith, ints)

times_low : (z : ℤ) (n most : ℕ) → n ≤ most → neg_ℤ (pos (unsigned_abs z * most)) ≤ℤ (z *ℤ pos n)
times_low (pos k) n most few = omega (arith, ints)
times_low (negsuc k) n most few = (let up : suc k * n ≤ suc k * most = mul-le-mul_left (suc k) few in omega (arith, ints))

-- what the amounts weigh, times the volume, where the first weight has what the share before the crudes lacks, and the
-- last what the share up to the last one lacks
base_of : ℕ → ℕ → ℕ → List ℕ → ℤ → List ℤ → ℤ
base_of total volume reached amounts weight weights =
    ((pos volume *ℤ weighted_of amounts (weight ∷ weights)) +ℤ (weight *ℤ pos (lack_of total volume reached))) -ℤ
    (last_of weight weights *ℤ pos (lack_of total volume (reached + sum amounts)))

-- the weighted draw, times the total, lies as near to that as the weights vary
record LiesNear (total volume reached : ℕ) (amounts : List ℕ) (weight : ℤ) (weights : List ℤ) : Type 0 where
  low : (base_of total volume reached amounts weight weights -ℤ pos (total * variation_of (weight ∷ weights))) ≤ℤ
      (pos total *ℤ weighted_of (draw_from total volume reached amounts) (weight ∷ weights))
  high : (pos total *ℤ weighted_of (draw_from total volume reached amounts) (weight ∷ weights)) ≤ℤ (base_of total volume reached amounts weight weights
      +ℤ pos (total * variation_of (weight ∷ weights)))

-- one crude: its weight times what is drawn of it
weighed-step : (weight : ℤ) (total drawn lack_after volume amount lack : ℕ) → total * drawn + lack_after ≡ volume * amount + lack →
    ((pos total *ℤ (weight *ℤ pos drawn)) +ℤ (weight *ℤ pos lack_after)) ≡ ((pos volume *ℤ (weight *ℤ pos amount)) +ℤ (weight *ℤ pos lack))
weighed-step (pos k) total drawn lack_after volume amount lack step =
    let both : k * (total * drawn + lack_after) ≡ k * (volume * amount + lack) = ap (λ (n : ℕ). k * n) step in
    omega (arith, ints)
weighed-step (negsuc k) total drawn lack_after volume amount lack step =
    let both : suc k * (total * drawn + lack_after) ≡ suc k * (volume * amount + lack) = ap (λ (n : ℕ). suc k * n) step in
    let drawn_is : (pos total *ℤ (negsuc k *ℤ pos drawn)) ≡ neg_ℤ (pos (total * (suc k * drawn))) = product-negative (pos total) (pos (suc k * drawn)) in
    let amount_is : (pos volume *ℤ (negsuc k *ℤ pos amount)) ≡ neg_ℤ (pos (volume * (suc k * amount))) = product-negative (pos volume) (pos (suc k * amount)) in
    omega (arith, ints)

near : (total volume reached amount : ℕ) (amounts : List ℕ) (weight : ℤ) (weights : List ℤ) → 0 < total → length weights ≡ length amounts →
    LiesNear total volume reached (amount ∷ amounts) weight weights
unfolding base_of last_of
near total volume reached amount [] weight [] some same =
    let step = weighed-step weight total (share_of total volume (reached + amount) - share_of total volume reached) (lack_of total volume (reached + amount))
    volume amount (lack_of total volume reached) (lack_of-step total volume reached amount some) in
    let same_end : reached + sum (amount ∷ []) ≡ reached + amount = omega (arith, sum-cons amount []) in
    let end = ap (λ (n : ℕ). weight *ℤ pos (lack_of total volume n)) same_end in
    let drawn = product-sum (pos total) (weight *ℤ pos (share_of total volume (reached + amount) - share_of total volume reached)) (pos 0) in
    let held = product-sum (pos volume) (weight *ℤ pos amount) (pos 0) in
    record { low = omega (arith, ints); high = omega (arith, ints) }
near total volume reached amount [] weight (next ∷ weights) some same = absurd (omega arith)
near total volume reached amount (other ∷ amounts) weight [] some same = absurd (omega arith)
near total volume reached amount (other ∷ amounts) weight (next ∷ weights) some same =
    let after = lack_of total volume (reached + amount) in
    let step = weighed-step weight total (share_of total volume (reached + amount) - share_of total volume reached) after volume amount
    (lack_of total volume reached) (lack_of-step total volume reached amount some) in
    let later = near total volume (reached + amount) other amounts next weights some (omega arith) in
    let turn_low = times_low (next -ℤ weight) after total (lack_of-below total volume (reached + amount) some) in
    let turn_high = times_high (next -ℤ weight) after total (lack_of-below total volume (reached + amount) some) in
    let turn = difference-product next weight (pos after) in
    let same_end : reached + amount + sum (other ∷ amounts) ≡ reached + sum (amount ∷ other ∷ amounts) = omega (arith, sum-cons amount (other ∷ amounts)) in
    let end = ap (λ (n : ℕ). last_of next weights *ℤ pos (lack_of total volume n)) same_end in
    let low = later.low in
    let high = later.high in
    let drawn = product-sum (pos total) (weight *ℤ pos (share_of total volume (reached + amount) - share_of total volume reached))
    (weighted_of (draw_from total volume (reached + amount) (other ∷ amounts)) (next ∷ weights)) in
    let held = product-sum (pos volume) (weight *ℤ pos amount) (weighted_of (other ∷ amounts) (next ∷ weights)) in
    record { low = omega (arith, ints); high = omega (arith, ints) }

-- an absolute value by its bounds
abs-within : (z : ℤ) (n : ℕ) → neg_ℤ (pos n) ≤ℤ z → z ≤ℤ pos n → unsigned_abs z ≤ n
abs-within (pos k) n low high = omega (arith, ints)
abs-within (negsuc k) n low high = omega (arith, ints)

pub draw_of_is_nearly_shared : (amounts : List ℕ) (volume : ℕ) → 0 < sum amounts → IsNearlyShared amounts volume (draw_of amounts volume)
unfolding draw_of base_of
draw_of_is_nearly_shared [] volume some weights same = absurd (omega arith)
draw_of_is_nearly_shared (amount ∷ amounts) volume some [] same = absurd (omega arith)
draw_of_is_nearly_shared (amount ∷ amounts) volume some (weight ∷ weights) same =
    let total = sum (amount ∷ amounts) in
    let close = near total volume 0 amount amounts weight weights some (omega arith) in
    let first = ap (λ (n : ℕ). weight *ℤ pos n) (lack_of-nothing total volume some) in
    let none : 0 + total ≡ total = omega arith in
    let last = ap (λ (n : ℕ). last_of weight weights *ℤ pos n) (ap (lack_of total volume) none ∙ lack_of-all total volume some) in
    let low = close.low in
    let high = close.high in
    abs-within ((pos total *ℤ weighted_of (draw_from total volume 0 (amount ∷ amounts)) (weight ∷ weights)) -ℤ
    (pos volume *ℤ weighted_of (amount ∷ amounts) (weight ∷ weights))) (total * variation_of (weight ∷ weights))
    (omega (arith, ints)) (omega (arith, ints))
