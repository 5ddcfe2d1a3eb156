-- Laws of margins: one more operation, and bounds.
use Rattle.std.proofs.Common.{◌≡◌, ℕ, suc, ◌+◌, ◌*◌, ◌≤◌, ℤ, pos, negsuc, neg_ℤ, ◌+ℤ◌, ◌*ℤ◌, ◌≤ℤ◌, Bool, true, false, if◌then◌else◌, List, [], ◌∷◌, ◌++◌, map, length, get_or, sum, ap, ◌∙◌, append_assoc, arith}
use Rattle.std.proofs.lemmas.Int.{ints}
use Rattle.std.proofs.lemmas.List.{append-nil, length-map, length_push}
use Rattle.std.proofs.lemmas.List.Sums.{sum_by_push}
use Rattle.std.proofs.Math.Nat.{mul-le-mul_right, mul-le-mul_left}
use Rattle.crude_amounts.specs.Amounts.{weighted_of}
use Rattle.crude_amounts.proofs.DrawLaws.{sum-cons}
use Rattle.number_laws.specs.Positive.{positive_part}
use Rattle.number_laws.specs.Sums.{sum_below}
use Rattle.number_laws.proofs.PositiveLaws.{positive_part-above, positive_part-times}
use Rattle.number_laws.proofs.SumLaws.{sum_below-front}
use Rattle.limits.specs.declared.TheConstants.{MOST_MARGIN, MOST_STEPS, MOST_VOLUME}
use Rattle.plant_model.specs.declared.parts.Parts.{Parts}
use Rattle.plant_model.specs.declared.parts.CrudePart.{CrudePart}
use Rattle.plant_model.specs.Parts.{crude_count_of, op_of, margin_of as crude_margin_of}
use Rattle.plant_model.specs.Relations.{is_charge}
use Rattle.plant_model.specs.Sound.{SoundPlant}
use Rattle.replay_core.specs.declared.timed.Timed.{Timed}
use Rattle.replay_core.specs.declared.order.Order.{Order}
use Rattle.replay_core.specs.State.{state_after, draw_at}
use Rattle.replay_core.specs.Legal.{CanRun, IsLegalIn}
use Rattle.replay_core.specs.inside.Earnings.{EarnsWithin}
use Rattle.replay_core.specs.Margin.{AreSmall, crude_margins_of, earned_at, earned_from, earned_of, margin_of, greatest_gain_of, greatest_gains_of, MarginIsBounded}
use Rattle.replay_core.proofs.StepLaws.{along_accepted, CanRun-legal}
use Rattle.replay_core.proofs.RuleLaws.{RunsSoundly, runs_soundly}
use Rattle.replay_core.proofs.StateLaws.{drawn-volume}

-- ---- one more operation

pub earned_from-append : (parts : Parts) (before front back : List Timed) → earned_from parts before (front ++ back) ≡ earned_from parts before front
    +ℤ earned_from parts (before ++ front) back
earned_from-append parts before [] back =
    let same = ap (λ (xs : List Timed). earned_from parts xs back) (append-nil before) in
    omega (arith, ints)
earned_from-append parts before (t ∷ front) back =
    let later = earned_from-append parts (before ++ t ∷ []) front back in
    let same = ap (λ (xs : List Timed). earned_from parts xs back) (append_assoc before (t ∷ []) front) in
    omega (arith, ints)

pub earned_of_push : (parts : Parts) (steps : List Timed) (t : Timed) → earned_of parts (steps ++ t ∷ []) ≡ earned_of parts steps +ℤ earned_at parts steps t
unfolding earned_of
earned_of_push parts steps t = (let e = earned_from-append parts [] steps (t ∷ []) in omega (arith, ints))

-- ---- bounds of a weighted sum

product-low : (most amount : ℕ) (weight : ℤ) → neg_ℤ (pos most) ≤ℤ weight → neg_ℤ (pos (most * amount)) ≤ℤ (weight *ℤ pos amount)
product-low most amount (pos n) low = omega (arith, ints)
product-low most amount (negsuc n) low =
    let up : suc n * amount ≤ most * amount = mul-le-mul_right amount (omega (arith, ints)) in
    omega (arith, ints)

product-high : (most amount : ℕ) (weight : ℤ) → weight ≤ℤ pos most → (weight *ℤ pos amount) ≤ℤ pos (most * amount)
product-high most amount (pos n) high =
    let up : n * amount ≤ most * amount = mul-le-mul_right amount (omega (arith, ints)) in
    omega (arith, ints)
product-high most amount (negsuc n) high = omega (arith, ints)

tail_small : (most : ℕ) (weight : ℤ) (weights : List ℤ) → AreSmall most (weight ∷ weights) → AreSmall most weights
tail_small most weight weights small = record { low = λ c within. small.low (suc c) (omega arith); high = λ c within. small.high (suc c) (omega arith) }

mul-sum_cons : (most amount : ℕ) (amounts : List ℕ) → most * sum (amount ∷ amounts) ≡ most * amount + most * sum amounts
mul-sum_cons most amount amounts = ap (λ (n : ℕ). most * n) (sum-cons amount amounts)
    ∙ (let e : most * (amount + sum amounts) ≡ most * amount + most * sum amounts = omega arith in e)

pub weighted_of-low : (most : ℕ) (amounts : List ℕ) (weights : List ℤ) → AreSmall most weights → neg_ℤ (pos (most * sum amounts)) ≤ℤ weighted_of amounts weights
weighted_of-low most [] weights small = omega (arith, ints)
weighted_of-low most (amount ∷ amounts) [] small = omega (arith, ints)
weighted_of-low most (amount ∷ amounts) (weight ∷ weights) small =
    let total = mul-sum_cons most amount amounts in
    let here = product-low most amount weight (small.low 0 (omega arith)) in
    let later = weighted_of-low most amounts weights (tail_small most weight weights small) in
    omega (arith, ints)

pub weighted_of-high : (most : ℕ) (amounts : List ℕ) (weights : List ℤ) → AreSmall most weights → weighted_of amounts weights ≤ℤ pos (most * sum amounts)
weighted_of-high most [] weights small = omega (arith, ints)
weighted_of-high most (amount ∷ amounts) [] small = omega (arith, ints)
weighted_of-high most (amount ∷ amounts) (weight ∷ weights) small =
    let total = mul-sum_cons most amount amounts in
    let here = product-high most amount weight (small.high 0 (omega arith)) in
    let later = weighted_of-high most amounts weights (tail_small most weight weights small) in
    omega (arith, ints)

-- ---- bounds of the margin

pub length-crude_margins_of : (parts : Parts) → length (crude_margins_of parts) ≡ crude_count_of parts
unfolding crude_margins_of crude_count_of
length-crude_margins_of parts = length-map parts.crudes (λ (crude : CrudePart). crude.margin)

pub crude_margins_are_small : (parts : Parts) → SoundPlant parts → AreSmall MOST_MARGIN (crude_margins_of parts)
unfolding crude_margins_of crude_margin_of
crude_margins_are_small parts sound = record {
  low = λ c within. (sound.each_margin c (let count = length-crude_margins_of parts in omega arith)).0;
  high = λ c within. (sound.each_margin c (let count = length-crude_margins_of parts in omega arith)).1;
}

-- what an operation earns, where it breaks no rule
earned-low : (parts : Parts) (before : List Timed) (t : Timed) → SoundPlant parts → RunsSoundly parts (state_after parts before) t →
    neg_ℤ (pos (MOST_MARGIN * MOST_VOLUME)) ≤ℤ earned_at parts before t
unfolding earned_at
earned-low parts before t sound runs =
    let volume = drawn-volume parts (state_after parts before) t runs in
    let most = runs.most in
    let low = weighted_of-low MOST_MARGIN (draw_at parts before t) (crude_margins_of parts) (crude_margins_are_small parts sound) in
    elim (is_charge (op_of parts t.op).kind) as
    (λ (b : Bool). neg_ℤ (pos (MOST_MARGIN * MOST_VOLUME)) ≤ℤ (if b then weighted_of (draw_at parts before t) (crude_margins_of parts) else pos 0))
    [ true ↦ omega (arith, ints) | false ↦ omega (arith, ints) ]

earned-high : (parts : Parts) (before : List Timed) (t : Timed) → SoundPlant parts → RunsSoundly parts (state_after parts before) t →
    earned_at parts before t ≤ℤ pos (MOST_MARGIN * MOST_VOLUME)
unfolding earned_at
earned-high parts before t sound runs =
    let volume = drawn-volume parts (state_after parts before) t runs in
    let most = runs.most in
    let high = weighted_of-high MOST_MARGIN (draw_at parts before t) (crude_margins_of parts) (crude_margins_are_small parts sound) in
    elim (is_charge (op_of parts t.op).kind) as (λ (b : Bool). (if b then weighted_of (draw_at parts before t) (crude_margins_of parts) else pos 0) ≤ℤ pos
    (MOST_MARGIN * MOST_VOLUME)) [ true ↦ omega (arith, ints) | false ↦ omega (arith, ints) ]

nothing_earned : (parts : Parts) → EarnsWithin 0 (earned_of parts [])
unfolding earned_of
nothing_earned parts = record { low = omega (arith, ints); high = omega (arith, ints) }

pub earns_within-accepted : (parts : Parts) (order : Order) (steps : List Timed) → SoundPlant parts → CanRun parts order steps →
    EarnsWithin (length steps) (earned_of parts steps)
earns_within-accepted parts order steps sound accepted =
    along_accepted parts order (λ (done : List Timed). EarnsWithin (length done) (earned_of parts done))
    (nothing_earned parts)
    (λ before t so_far within none.
    let runs = runs_soundly parts order before t (length before + 1) sound none in
    let low = earned-low parts before t sound runs in
    let high = earned-high parts before t sound runs in
    let one = length_push before t in
    let sum = earned_of_push parts before t in
    record { low = omega (arith, ints); high = omega (arith, ints) })
    steps accepted

mul-most : (a n m : ℕ) → n ≤ m → a * n ≤ a * m
mul-most a n m few = mul-le-mul_left a few

pub earns_within-most : (parts : Parts) (order : Order) (steps : List Timed) → SoundPlant parts → CanRun parts order steps → length steps ≤ MOST_STEPS →
    EarnsWithin MOST_STEPS (earned_of parts steps)
earns_within-most parts order steps sound can_run few =
    let within = earns_within-accepted parts order steps sound can_run in
    let low = within.low in
    let high = within.high in
    let up = mul-most (MOST_MARGIN * MOST_VOLUME) (length steps) MOST_STEPS few in
    record { low = omega (arith, ints); high = omega (arith, ints) }

-- ---- no legal plan earns more than its charges could if each drew what it liked

-- no part is more than the volume, so no crude that earns earns more than the volume would
weighted_of-most : (volume : ℕ) (amounts : List ℕ) (weights : List ℤ) → sum amounts ≤ volume →
    weighted_of amounts weights ≤ℤ pos (sum_below (length weights) (λ c. positive_part (get_or weights c (pos 0)) * volume))
weighted_of-most volume [] weights few = omega (arith, ints)
weighted_of-most volume (amount ∷ amounts) [] few = omega (arith, ints)
weighted_of-most volume (amount ∷ amounts) (weight ∷ weights) few =
    let total = sum-cons amount amounts in
    let later = weighted_of-most volume amounts weights (omega arith) in
    let front = sum_below-front (length weights) (λ c. positive_part (get_or (weight ∷ weights) c (pos 0)) * volume) in
    let above : (weight *ℤ pos amount) ≤ℤ pos (positive_part weight * amount) = (let part = positive_part-above (weight *ℤ pos amount) in
    let times = positive_part-times weight amount in omega (arith, ints)) in
    let up : positive_part weight * amount ≤ positive_part weight * volume = mul-le-mul_left (positive_part weight) (omega arith) in
    omega (arith, ints)

earned-most : (parts : Parts) (before : List Timed) (t : Timed) → RunsSoundly parts (state_after parts before) t →
    earned_at parts before t ≤ℤ pos (if is_charge (op_of parts t.op).kind then greatest_gain_of parts t.volume else 0)
unfolding earned_at crude_margins_of crude_margin_of crude_count_of
earned-most parts before t runs =
    let volume = drawn-volume parts (state_after parts before) t runs in
    let margins = map (λ (crude : CrudePart). crude.margin) parts.crudes in
    let most = weighted_of-most t.volume (draw_at parts before t) margins (omega arith) in
    let count = length-map parts.crudes (λ (crude : CrudePart). crude.margin) in
    let same = ap (λ (n : ℕ). sum_below n (λ c. positive_part (get_or margins c (pos 0)) * t.volume)) count in
    elim (is_charge (op_of parts t.op).kind) as (λ (b : Bool). (if b then weighted_of (draw_at parts before t) margins else pos 0) ≤ℤ pos
    (if b then sum_below (length parts.crudes) (λ c. positive_part (get_or margins c (pos 0)) * t.volume) else 0))
    [ true ↦ omega (arith, ints) | false ↦ omega (arith, ints) ]

no_gain : (parts : Parts) → earned_of parts [] ≤ℤ pos (greatest_gains_of parts [])
unfolding earned_of greatest_gains_of
no_gain parts = omega (arith, ints)

greatest_gains_of_push : (parts : Parts) (plan : List Timed) (t : Timed) →
    greatest_gains_of parts (plan ++ t ∷ []) ≡ greatest_gains_of parts plan + (if is_charge (op_of parts t.op).kind then greatest_gain_of parts t.volume else 0)
unfolding greatest_gains_of
greatest_gains_of_push parts plan t = sum_by_push (λ (s : Timed). if is_charge (op_of parts s.op).kind then greatest_gain_of parts s.volume else 0) plan t

earned_is_bounded : (parts : Parts) (order : Order) (plan : List Timed) → SoundPlant parts → IsLegalIn parts order plan →
    earned_of parts plan ≤ℤ pos (greatest_gains_of parts plan)
earned_is_bounded parts order plan sound legal =
    along_accepted parts order (λ (done : List Timed). earned_of parts done ≤ℤ pos (greatest_gains_of parts done))
    (no_gain parts)
    (λ before t so_far within none.
    let runs = runs_soundly parts order before t (length before + 1) sound none in
    let most = earned-most parts before t runs in
    let sum = earned_of_push parts before t in
    let gains = greatest_gains_of_push parts before t in
    omega (arith, ints))
    plan (CanRun-legal parts order plan legal)

-- and what vessels pay is taken away from it
pub margin_is_bounded : (parts : Parts) → SoundPlant parts → MarginIsBounded parts
unfolding margin_of
margin_is_bounded parts sound order plan legal = let earned = earned_is_bounded parts order plan sound legal in omega (arith, ints)
