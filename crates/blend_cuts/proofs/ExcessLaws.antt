-- The excess of amounts: what of them is taken, added or drawn.
use Rattle.std.proofs.Common.{◌≡◌, ℕ, zero, suc, ◌+◌, ◌-◌, ◌*◌, ◌<◌, ◌≤◌, List, [], ◌∷◌, length, map, take, get_or, sum, ℤ, unsigned_abs, pos, negsuc, neg_ℤ, ◌+ℤ◌, ◌-ℤ◌, ◌*ℤ◌, ◌≤ℤ◌, inl, inr, refl, sym, ap, ◌∙◌, arith}
use Rattle.std.specs.List.{range_with_len}
use Rattle.std.proofs.lemmas.Bool.{cases_eq}
use Rattle.std.proofs.lemmas.Int.{ints, unsigned_abs-mul}
use Rattle.std.proofs.lemmas.List.{take_all}
use Rattle.std.proofs.lemmas.List.FromFn.{length-map-range_with_len, get_or-map-range_with_len}
use Rattle.std.proofs.Math.Nat.{le-max_left, le-max_right, mul-le-mul_right}
use Rattle.crude_amounts.specs.Amounts.{mix_of, rest_of, weighted_of}
use Rattle.crude_amounts.specs.Blend.{variation_of}
use Rattle.crude_amounts.specs.Draw.{draw_of}
use Rattle.crude_amounts.proofs.BlendLaws.{draw_of_is_nearly_shared}
use Rattle.crude_amounts.proofs.DrawLaws.{length-draw_of, draw_of-within}
use Rattle.crude_amounts.proofs.MixLaws.{crude-taken, crude-added}
use Rattle.crude_amounts.proofs.WeightLaws.{weighted_of_more}
use Rattle.number_laws.specs.Positive.{positive_part}
use Rattle.number_laws.specs.SignedSums.{total_below}
use Rattle.number_laws.specs.Sums.{sum_below}
use Rattle.number_laws.proofs.PositiveLaws.{positive_part-sum}
use Rattle.number_laws.proofs.ProductLaws.{product-sum, product-negative}
use Rattle.number_laws.proofs.SignedSumLaws.{total_below-same, total_below-sum, total_below-le, total_below-pos}
use Rattle.number_laws.proofs.SumLaws.{sum_below-same, sum_below-front, sum_below-list}
use Rattle.plant_model.specs.declared.parts.Parts.{Parts}
use Rattle.plant_model.specs.Parts.{natural, crude_count_of}
use Rattle.slot_box.specs.declared.cut.CutParams.{CutParams}
use Rattle.blend_cuts.specs.Cuts.{weight_of}
use Rattle.blend_cuts.specs.Excess.{rise_of, excess_of, positive_excess_of, drift_of, greatest_below, steepest_of}
use Rattle.blend_cuts.proofs.DriftLaws.{draw_drifts}

-- ---- amounts that add up

product-parts : (z : ℤ) (a b whole : ℕ) → a + b ≡ whole → (z *ℤ pos a) +ℤ (z *ℤ pos b) ≡ z *ℤ pos whole
product-parts z a b whole same =
    let parts = product-sum z (pos a) (pos b) in
    let is : pos a +ℤ pos b ≡ pos whole = omega (arith, ints, same) in
    sym parts ∙ ap (λ (y : ℤ). z *ℤ y) is

-- crude by crude: so do their excesses
pub excess-adds : (parts : Parts) (cut : CutParams) (a b whole : List ℕ) → ((c : ℕ) → get_or a c 0 + get_or b c 0 ≡ get_or whole c 0) →
    excess_of parts cut a +ℤ excess_of parts cut b ≡ excess_of parts cut whole
excess-adds parts cut a b whole same =
    let n = crude_count_of parts in
    sym (total_below-sum n (λ c. rise_of cut c *ℤ pos (get_or a c 0)) (λ c. rise_of cut c *ℤ pos (get_or b c 0)))
    ∙ total_below-same n (λ c. (rise_of cut c *ℤ pos (get_or a c 0)) +ℤ (rise_of cut c *ℤ pos (get_or b c 0)))
    (λ c. rise_of cut c *ℤ pos (get_or whole c 0))
    (λ c under. product-parts (rise_of cut c) (get_or a c 0) (get_or b c 0) (get_or whole c 0) (same c))

pub excess-taken : (parts : Parts) (cut : CutParams) (held drawn : List ℕ) → length drawn ≡ length held → ((c : ℕ) → get_or drawn c 0 ≤ get_or held c 0) →
    excess_of parts cut (rest_of held drawn) +ℤ excess_of parts cut drawn ≡ excess_of parts cut held
excess-taken parts cut held drawn same there = excess-adds parts cut (rest_of held drawn) drawn held (λ c. crude-taken c held drawn same there)

-- receiving raises the positive excess by no more than that of what is received
pub received-rises : (parts : Parts) (cut : CutParams) (held drawn : List ℕ) → length drawn ≡ length held →
    positive_excess_of parts cut (mix_of held drawn) ≤ positive_excess_of parts cut held + positive_excess_of parts cut drawn
received-rises parts cut held drawn same =
    let whole = excess-adds parts cut held drawn (mix_of held drawn) (λ c. sym (crude-added c held drawn same)) in
    let least = positive_part-sum (excess_of parts cut held) (excess_of parts cut drawn) in
    let is = ap positive_part whole in
    omega (arith, least, is)

-- ---- by weighed lists

-- the first amounts weigh what their crudes come to, one by one
weighed-first : (amounts : List ℕ) (weights : List ℤ) (n : ℕ) → n ≤ length amounts → n ≤ length weights →
    weighted_of (take n amounts) weights ≡ total_below n (λ c. get_or weights c (pos 0) *ℤ pos (get_or amounts c 0))
weighed-first amounts weights zero within weighed = refl
weighed-first amounts weights (suc n) within weighed =
    let first = weighed-first amounts weights n (omega arith) (omega arith) in
    let next = weighted_of_more amounts weights n (omega arith) (omega arith) in
    omega (arith, ints, first, next)

rises_of : Parts → CutParams → List ℤ
rises_of parts cut = map (rise_of cut) (range_with_len 0 (crude_count_of parts))

rises-length : (parts : Parts) (cut : CutParams) → length (rises_of parts cut) ≡ crude_count_of parts
unfolding rises_of
rises-length parts cut = length-map-range_with_len (rise_of cut) 0 (crude_count_of parts)

rises-at : (parts : Parts) (cut : CutParams) (c : ℕ) → c < crude_count_of parts → get_or (rises_of parts cut) c (pos 0) ≡ rise_of cut c
unfolding rises_of
rises-at parts cut c there = get_or-map-range_with_len (rise_of cut) 0 (crude_count_of parts) c c (pos 0) there (omega arith)

excess-weighed : (parts : Parts) (cut : CutParams) (amounts : List ℕ) → length amounts ≡ crude_count_of parts →
    weighted_of amounts (rises_of parts cut) ≡ excess_of parts cut amounts
excess-weighed parts cut amounts same =
    let n = crude_count_of parts in
    let count = rises-length parts cut in
    ap (λ (xs : List ℕ). weighted_of xs (rises_of parts cut)) (sym (take_all n amounts (omega (arith, same))))
    ∙ weighed-first amounts (rises_of parts cut) n (omega (arith, same)) (omega (arith, count))
    ∙ total_below-same n (λ c. get_or (rises_of parts cut) c (pos 0) *ℤ pos (get_or amounts c 0)) (λ c. rise_of cut c *ℤ pos (get_or amounts c 0))
    (λ c under. ap (λ (z : ℤ). z *ℤ pos (get_or amounts c 0)) (rises-at parts cut c under))

-- ---- the drift

variation-sum : (weight : ℤ) (weights : List ℤ) → variation_of (weight ∷ weights)
    ≡ sum_below (length weights) (λ c. unsigned_abs (get_or (weight ∷ weights) (suc c) (pos 0) -ℤ get_or (weight ∷ weights) c (pos 0)))
variation-sum weight [] = refl
variation-sum weight (next ∷ weights) =
    let rest = variation-sum next weights in
    let front = sum_below-front (length weights)
    (λ c. unsigned_abs (get_or (weight ∷ next ∷ weights) (suc c) (pos 0) -ℤ get_or (weight ∷ next ∷ weights) c (pos 0))) in
    omega (arith, rest, front)

variation-by_index : (weights : List ℤ) → variation_of weights
    ≡ sum_below (length weights - 1) (λ c. unsigned_abs (get_or weights (c + 1) (pos 0) -ℤ get_or weights c (pos 0)))
variation-by_index [] = refl
variation-by_index (weight ∷ weights) =
    let same : length (weight ∷ weights) - 1 ≡ length weights = omega arith in
    variation-sum weight weights
    ∙ sum_below-same (length weights) (λ c. unsigned_abs (get_or (weight ∷ weights) (suc c) (pos 0) -ℤ get_or (weight ∷ weights) c (pos 0)))
    (λ c. unsigned_abs (get_or (weight ∷ weights) (c + 1) (pos 0) -ℤ get_or (weight ∷ weights) c (pos 0)))
    (λ c under. (let next : suc c ≡ c + 1 = omega arith in
    ap (λ (k : ℕ). unsigned_abs (get_or (weight ∷ weights) k (pos 0) -ℤ get_or (weight ∷ weights) c (pos 0))) next))
    ∙ ap (λ (m : ℕ). sum_below m (λ c. unsigned_abs (get_or (weight ∷ weights) (c + 1) (pos 0) -ℤ get_or (weight ∷ weights) c (pos 0)))) (sym same)

-- rises differ as weights do, times the denominator
rise-difference : (cut : CutParams) (c : ℕ) → cut.q ≡ pos (natural cut.q) →
    unsigned_abs (rise_of cut (c + 1) -ℤ rise_of cut c) ≡ natural cut.q * unsigned_abs (weight_of cut (c + 1) -ℤ weight_of cut c)
rise-difference cut c is =
    let next = weight_of cut (c + 1) in
    let this = weight_of cut c in
    let parts = product-sum cut.q next (neg_ℤ this) in
    let less = product-negative cut.q this in
    let same : rise_of cut (c + 1) -ℤ rise_of cut c ≡ cut.q *ℤ (next -ℤ this) = omega (arith, ints, parts, less) in
    ap unsigned_abs (same ∙ ap (λ (z : ℤ). z *ℤ (next -ℤ this)) is) ∙ unsigned_abs-mul (pos (natural cut.q)) (next -ℤ this)

sum-scaled : (n k : ℕ) (f : ℕ → ℕ) → sum_below n (λ c. k * f c) ≡ k * sum_below n f
sum-scaled zero k f = omega arith
sum-scaled (suc n) k f = let first = sum-scaled n k f in omega (arith, first)

rises-vary : (parts : Parts) (cut : CutParams) → cut.q ≡ pos (natural cut.q) → variation_of (rises_of parts cut) ≡ drift_of parts cut
unfolding drift_of
rises-vary parts cut is =
    let n = crude_count_of parts in
    let rises = rises_of parts cut in
    variation-by_index rises
    ∙ ap (λ (m : ℕ). sum_below (m - 1) (λ c. unsigned_abs (get_or rises (c + 1) (pos 0) -ℤ get_or rises c (pos 0)))) (rises-length parts cut)
    ∙ sum_below-same (n - 1) (λ c. unsigned_abs (get_or rises (c + 1) (pos 0) -ℤ get_or rises c (pos 0)))
    (λ c. natural cut.q * unsigned_abs (weight_of cut (c + 1) -ℤ weight_of cut c))
    (λ c under. (let next = rises-at parts cut (c + 1) (omega arith) in let this = rises-at parts cut c (omega arith) in
    ap (λ (z : ℤ). unsigned_abs (z -ℤ get_or rises c (pos 0))) next ∙ ap (λ (z : ℤ). unsigned_abs (rise_of cut (c + 1) -ℤ z)) this
    ∙ rise-difference cut c is))
    ∙ sum-scaled (n - 1) (natural cut.q) (λ c. unsigned_abs (weight_of cut (c + 1) -ℤ weight_of cut c))

-- one draw: the positive excess of what it leaves and of itself is that of what was there, and one drift
pub draw-drifts : (parts : Parts) (cut : CutParams) (held : List ℕ) (volume : ℕ) → cut.q ≡ pos (natural cut.q) → length held ≡ crude_count_of parts →
    1 ≤ volume → volume ≤ sum held →
    positive_excess_of parts cut (rest_of held (draw_of held volume)) + positive_excess_of parts cut (draw_of held volume)
    ≤ positive_excess_of parts cut held + drift_of parts cut
draw-drifts parts cut held volume is same some within =
    let drawn = draw_of held volume in
    let total = sum held in
    let e = excess_of parts cut held in
    let x = excess_of parts cut drawn in
    let count = length-draw_of held volume in
    let near = draw_of_is_nearly_shared held volume (omega arith) (rises_of parts cut) (rises-length parts cut ∙ sym same) in
    let draw_is = ap (λ (z : ℤ). pos total *ℤ z) (excess-weighed parts cut drawn (count ∙ same)) in
    let held_is = ap (λ (z : ℤ). pos volume *ℤ z) (excess-weighed parts cut held same) in
    let vary = ap (λ (d : ℕ). total * d) (rises-vary parts cut is) in
    let difference : (pos total *ℤ weighted_of drawn (rises_of parts cut)) -ℤ (pos volume *ℤ weighted_of held (rises_of parts cut))
    ≡ (pos total *ℤ x) -ℤ (pos volume *ℤ e) = omega (arith, ints, draw_is, held_is) in
    let abs = ap unsigned_abs difference in
    let close : unsigned_abs ((pos total *ℤ x) -ℤ (pos volume *ℤ e)) ≤ total * drift_of parts cut = omega (arith, near, abs, vary) in
    let drifts = draw_drifts total volume e x (drift_of parts cut) some within close in
    let taken = excess-taken parts cut held drawn count (λ c. draw_of-within held volume c (omega arith) within) in
    let rest : e -ℤ x ≡ excess_of parts cut (rest_of held drawn) = omega (arith, ints, taken) in
    let left = ap positive_part rest in
    omega (arith, drifts, left)

-- ---- the steepest crude

pub below-greatest : (n : ℕ) (f : ℕ → ℕ) (k : ℕ) → k < n → f k ≤ greatest_below n f
below-greatest zero f k there = absurd (omega arith)
below-greatest (suc n) f k there =
    elim (cases_eq k n) [
      | inl is ↦ (let same = ap f is in let right = le-max_right (greatest_below n f) (f n) in omega (arith, same, right))
      | inr other ↦ (let first = below-greatest n f k (omega arith) in let left = le-max_left (greatest_below n f) (f n) in omega (arith, first, left))
    ]

times-high : (z : ℤ) (most n : ℕ) → positive_part z ≤ most → (z *ℤ pos n) ≤ℤ pos (most * n)
times-high (pos k) most n within = (let up : k * n ≤ most * n = mul-le-mul_right n within in omega (arith, ints, up))
times-high (negsuc k) most n within = omega (arith, ints)

-- amounts exceed the threshold by no more than if all were of it
pub excess-most : (parts : Parts) (cut : CutParams) (amounts : List ℕ) → length amounts ≡ crude_count_of parts →
    excess_of parts cut amounts ≤ℤ pos (steepest_of parts cut * sum amounts)
unfolding steepest_of
excess-most parts cut amounts same =
    let n = crude_count_of parts in
    let most = greatest_below n (λ c. positive_part (rise_of cut c)) in
    let each = total_below-le n (λ c. rise_of cut c *ℤ pos (get_or amounts c 0)) (λ c. pos (most * get_or amounts c 0))
    (λ c under. times-high (rise_of cut c) most (get_or amounts c 0) (below-greatest n (λ k. positive_part (rise_of cut k)) c under)) in
    let all = total_below-pos n (λ c. most * get_or amounts c 0) in
    let scaled = sum-scaled n most (λ c. get_or amounts c 0) in
    let whole : sum_below n (λ c. get_or amounts c 0) ≡ sum amounts =
    ap (λ (m : ℕ). sum_below m (λ c. get_or amounts c 0)) (sym same) ∙ sum_below-list amounts in
    let times = ap (λ (m : ℕ). most * m) whole in
    omega (arith, ints, each, all, scaled, times)
