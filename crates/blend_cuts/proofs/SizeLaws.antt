-- How great the numbers of a cut's row are at most.
use Rattle.std.proofs.Common.{◌≡◌, ℕ, zero, suc, ◌+◌, ◌-◌, ◌*◌, ◌^◌, ◌<◌, ◌≤◌, List, [], ◌∷◌, length, map, get_or, sum, max, ℤ, unsigned_abs, pos, neg_ℤ, ◌+ℤ◌, ◌-ℤ◌, ◌*ℤ◌, inl, inr, sym, ap, ◌∙◌, arith}
use Rattle.std.specs.List.{sum_by, range_with_len}
use Rattle.std.proofs.lemmas.Bool.{cases_Bool}
use Rattle.std.proofs.lemmas.Int.{ints, unsigned_abs-mul, fits_signed_from_abs, to_z-of_z}
use mir.Syntax.{w64}
use mir.Val.{SFits, to_z, of_z}
use Rattle.std.proofs.lemmas.List.FromFn.{map-range_with_len_more}
use Rattle.std.proofs.lemmas.List.Sums.{sum_by-append, sum_by-cons}
use Rattle.std.proofs.Math.Nat.{mul-le-mul_left, mul-le-mul_right}
use Rattle.limits.specs.declared.TheConstants.{MOST_CRUDES, MOST_CUT_DENOMINATOR, MOST_CUT_WEIGHT, MOST_PLACES, MOST_SLOTS, MOST_VOLUME}
use Rattle.number_laws.specs.Positive.{positive_part}
use Rattle.number_laws.specs.SignedSums.{total_below}
use Rattle.number_laws.specs.Sums.{sum_below}
use Rattle.number_laws.proofs.PositiveLaws.{positive_part-least}
use Rattle.number_laws.proofs.SignedSumLaws.{abs-difference, abs-negative, abs-high, total_below-more}
use Rattle.plant_model.specs.declared.parts.Parts.{Parts}
use Rattle.plant_model.specs.Parts.{natural, crude_count_of, place_count_of, place_of, initial_of, initial_amounts_of, op_count_of, op_of}
use Rattle.plant_model.specs.Sound.{SoundPlant}
use Rattle.replay_core.proofs.StateLaws.{holds_crude}
use Rattle.row_forms.specs.Sizes.{piece_reach, HasSmallReach}
use Rattle.slot_box.specs.declared.cut.CutParams.{CutParams}
use Rattle.blend_cuts.specs.Cuts.{is_inside, weight_of}
use Rattle.blend_cuts.specs.Excess.{rise_of, most_rise, excess_of, positive_excess_of, place_excess_of, first_excess_of, weight_variation_of, drift_of, greatest_below, steepest_of, most_excess_of}
use Rattle.blend_cuts.specs.CutRows.{drawn_piece, drawn_pieces, allowance_of, allowed_piece, brought_piece, cut_inequality}
use Rattle.blend_cuts.proofs.ExcessLaws.{excess-most}
use Rattle.blend_cuts.proofs.ValidLaws.{IsCut}

-- ---- sums and greatest ones

pub sum_below-most : (n most : ℕ) (f : ℕ → ℕ) → ((k : ℕ) → k < n → f k ≤ most) → sum_below n f ≤ n * most
sum_below-most zero most f each = omega arith
sum_below-most (suc n) most f each =
    let first = sum_below-most n most f (λ k under. each k (omega arith)) in
    let last = each n (omega arith) in
    omega (arith, first, last)

max-most : (a b most : ℕ) → a ≤ most → b ≤ most → max a b ≤ most
max-most a b most first second = grind (arith, first, second)

greatest_below-most : (n most : ℕ) (f : ℕ → ℕ) → ((k : ℕ) → k < n → f k ≤ most) → greatest_below n f ≤ most
greatest_below-most zero most f each = omega arith
greatest_below-most (suc n) most f each =
    max-most (greatest_below n f) (f n) most (greatest_below-most n most f (λ k under. each k (omega arith))) (each n (omega arith))

-- ---- numbers that are computed

product-fits : (a b : ℤ) → unsigned_abs a * unsigned_abs b < 2 ^ 62 → SFits w64 (a *ℤ b)
product-fits a b small = fits_signed_from_abs w64 (a *ℤ b) (let size = unsigned_abs-mul a b in omega (arith, size, small))

pub stored-fits : (a b : ℤ) → SFits w64 a → SFits w64 b → unsigned_abs a * unsigned_abs b < 2 ^ 62 →
    SFits w64 (to_z w64 (of_z w64 a) *ℤ to_z w64 (of_z w64 b))
stored-fits a b first second small = rw (to_z-of_z w64 a first, to_z-of_z w64 b second) (product-fits a b small)

pub stored-product : (a b : ℤ) → SFits w64 a → SFits w64 b → unsigned_abs a * unsigned_abs b < 2 ^ 62 →
    to_z w64 (of_z w64 (to_z w64 (of_z w64 a) *ℤ to_z w64 (of_z w64 b))) ≡ a *ℤ b
stored-product a b first second small =
    rw (to_z-of_z w64 a first, to_z-of_z w64 b second) (to_z-of_z w64 (a *ℤ b) (product-fits a b small))

pub stored-difference : (a b : ℤ) → SFits w64 a → SFits w64 b → unsigned_abs a ≤ 2 ^ 61 → unsigned_abs b ≤ 2 ^ 61 →
    to_z w64 (of_z w64 (to_z w64 (of_z w64 a) -ℤ to_z w64 (of_z w64 b))) ≡ a -ℤ b
stored-difference a b first second few less =
    let size = abs-difference a b in
    rw (to_z-of_z w64 a first, to_z-of_z w64 b second) (to_z-of_z w64 (a -ℤ b) (fits_signed_from_abs w64 (a -ℤ b) (omega (arith, size, few, less))))

-- ---- rises

pub weighted-small : (parts : Parts) (cut : CutParams) (c : ℕ) → IsCut parts cut → c < crude_count_of parts →
    unsigned_abs (cut.q *ℤ weight_of cut c) ≤ MOST_CUT_DENOMINATOR * MOST_CUT_WEIGHT
weighted-small parts cut c is there =
    let weight = is.weights c there in
    let denominator = is.denominator in
    let same = ap (λ (z : ℤ). unsigned_abs (z *ℤ weight_of cut c)) is.q ∙ unsigned_abs-mul (pos (natural cut.q)) (weight_of cut c) in
    let up : natural cut.q * unsigned_abs (weight_of cut c) ≤ natural cut.q * MOST_CUT_WEIGHT = mul-le-mul_left (natural cut.q) weight in
    let most : natural cut.q * MOST_CUT_WEIGHT ≤ MOST_CUT_DENOMINATOR * MOST_CUT_WEIGHT = mul-le-mul_right MOST_CUT_WEIGHT denominator in
    omega (arith, same, up, most)

pub rise-small : (parts : Parts) (cut : CutParams) (c : ℕ) → IsCut parts cut → c < crude_count_of parts → unsigned_abs (rise_of cut c) ≤ most_rise
rise-small parts cut c is there =
    let product = weighted-small parts cut c is there in
    let threshold = is.threshold in
    let difference = abs-difference (cut.q *ℤ weight_of cut c) cut.p in
    omega (arith, product, threshold, difference)

positive-small : (z : ℤ) (most : ℕ) → unsigned_abs z ≤ most → positive_part z ≤ most
positive-small z most within = positive_part-least z most (abs-high z most within)

pub steepest-most : (parts : Parts) (cut : CutParams) → IsCut parts cut → steepest_of parts cut ≤ most_rise
unfolding steepest_of
steepest-most parts cut is =
    greatest_below-most (crude_count_of parts) most_rise (λ c. positive_part (rise_of cut c))
    (λ c there. positive-small (rise_of cut c) most_rise (rise-small parts cut c is there))

pub most-excess-most : (parts : Parts) (cut : CutParams) (v : ℕ) → SoundPlant parts → IsCut parts cut → v < op_count_of parts →
    most_excess_of parts cut v ≤ most_rise * MOST_VOLUME
most-excess-most parts cut v sound is known =
    let steep = steepest-most parts cut is in
    let volume = ((sound.each_op v known).volume).to_high in
    let up : steepest_of parts cut * (op_of parts v).volume.1 ≤ steepest_of parts cut * MOST_VOLUME = mul-le-mul_left (steepest_of parts cut) volume in
    let most : steepest_of parts cut * MOST_VOLUME ≤ most_rise * MOST_VOLUME = mul-le-mul_right MOST_VOLUME steep in
    omega (arith, up, most)

-- a loop's step: crude c is counted too
pub excess-next : (parts : Parts) (cut : CutParams) (p c : ℕ) (sum product : ℤ) →
    sum ≡ total_below c (λ k. rise_of cut k *ℤ pos (get_or (initial_amounts_of parts p) k 0)) → product ≡ rise_of cut c *ℤ pos (initial_of parts p c) →
    sum +ℤ product ≡ total_below (c + 1) (λ k. rise_of cut k *ℤ pos (get_or (initial_amounts_of parts p) k 0))
unfolding initial_of
excess-next parts cut p c sum product done next =
    let more = total_below-more c (λ k. rise_of cut k *ℤ pos (get_or (initial_amounts_of parts p) k 0)) in
    omega (arith, ints, more, done, next)

-- ---- what a set exceeds the threshold by at first

positive-excess-most : (parts : Parts) (cut : CutParams) (amounts : List ℕ) → IsCut parts cut → length amounts ≡ crude_count_of parts → sum amounts ≤ MOST_VOLUME →
    positive_excess_of parts cut amounts ≤ most_rise * MOST_VOLUME
positive-excess-most parts cut amounts is same within =
    let most = excess-most parts cut amounts same in
    let steep = steepest-most parts cut is in
    let up : steepest_of parts cut * sum amounts ≤ steepest_of parts cut * MOST_VOLUME = mul-le-mul_left (steepest_of parts cut) within in
    let all : steepest_of parts cut * MOST_VOLUME ≤ most_rise * MOST_VOLUME = mul-le-mul_right MOST_VOLUME steep in
    positive_part-least (excess_of parts cut amounts) (most_rise * MOST_VOLUME) (omega (arith, ints, most, up, all))

pub place-excess-most : (parts : Parts) (cut : CutParams) (p : ℕ) → SoundPlant parts → IsCut parts cut → p < place_count_of parts →
    place_excess_of parts cut p ≤ most_rise * MOST_VOLUME
place-excess-most parts cut p sound is there =
    elim (cases_Bool (is_inside cut p)) [
      | inr outside ↦ rw outside (omega arith)
      | inl inside ↦
          let amounts = sound.each_amounts p there (holds_crude (place_of parts p).kind (is.stock p there inside)) in
          let most = positive-excess-most parts cut (initial_amounts_of parts p) is amounts.each_crude amounts.total in
          rw inside most
    ]

pub first-excess-most : (parts : Parts) (cut : CutParams) → SoundPlant parts → IsCut parts cut → first_excess_of parts cut ≤ MOST_PLACES * (most_rise * MOST_VOLUME)
unfolding first_excess_of
first-excess-most parts cut sound is =
    let all = sum_below-most (place_count_of parts) (most_rise * MOST_VOLUME) (place_excess_of parts cut) (λ p there. place-excess-most parts cut p sound is there) in
    let places = sound.places in
    let up : place_count_of parts * (most_rise * MOST_VOLUME) ≤ MOST_PLACES * (most_rise * MOST_VOLUME) = mul-le-mul_right (most_rise * MOST_VOLUME) places in
    omega (arith, all, up)

-- ---- the drift

pub weight-step-most : (parts : Parts) (cut : CutParams) (c : ℕ) → IsCut parts cut → c + 1 < crude_count_of parts →
    unsigned_abs (weight_of cut (c + 1) -ℤ weight_of cut c) ≤ 2 * MOST_CUT_WEIGHT
weight-step-most parts cut c is there =
    let next = is.weights (c + 1) there in
    let this = is.weights c (omega (arith, there)) in
    let difference = abs-difference (weight_of cut (c + 1)) (weight_of cut c) in
    omega (arith, next, this, difference)

pub weight-variation-most : (parts : Parts) (cut : CutParams) → SoundPlant parts → IsCut parts cut → weight_variation_of parts cut ≤ MOST_CRUDES * (2 * MOST_CUT_WEIGHT)
weight-variation-most parts cut sound is =
    let n = crude_count_of parts - 1 in
    let all = sum_below-most n (2 * MOST_CUT_WEIGHT) (λ c. unsigned_abs (weight_of cut (c + 1) -ℤ weight_of cut c))
    (λ c there. weight-step-most parts cut c is (omega (arith, there))) in
    let crudes = sound.crudes in
    let few : n ≤ MOST_CRUDES = omega (arith, crudes.1) in
    let up : n * (2 * MOST_CUT_WEIGHT) ≤ MOST_CRUDES * (2 * MOST_CUT_WEIGHT) = mul-le-mul_right (2 * MOST_CUT_WEIGHT) few in
    omega (arith, all, up)

pub drift-most : (parts : Parts) (cut : CutParams) → SoundPlant parts → IsCut parts cut →
    drift_of parts cut ≤ MOST_CUT_DENOMINATOR * (MOST_CRUDES * (2 * MOST_CUT_WEIGHT))
unfolding drift_of
drift-most parts cut sound is =
    let variation = weight-variation-most parts cut sound is in
    let denominator = is.denominator in
    let up : natural cut.q * weight_variation_of parts cut ≤ natural cut.q * (MOST_CRUDES * (2 * MOST_CUT_WEIGHT)) = mul-le-mul_left (natural cut.q) variation in
    let most : natural cut.q * (MOST_CRUDES * (2 * MOST_CUT_WEIGHT)) ≤ MOST_CUT_DENOMINATOR * (MOST_CRUDES * (2 * MOST_CUT_WEIGHT)) =
    mul-le-mul_right (MOST_CRUDES * (2 * MOST_CUT_WEIGHT)) denominator in
    omega (arith, up, most)

pub allowance-most : (parts : Parts) (cut : CutParams) (slot : ℕ) → SoundPlant parts → IsCut parts cut → slot ≤ MOST_SLOTS →
    allowance_of parts cut slot ≤ MOST_PLACES * (most_rise * MOST_VOLUME) + MOST_SLOTS * (MOST_CUT_DENOMINATOR * (MOST_CRUDES * (2 * MOST_CUT_WEIGHT)))
allowance-most parts cut slot sound is few =
    let first = first-excess-most parts cut sound is in
    let drift = drift-most parts cut sound is in
    let up : slot * drift_of parts cut ≤ MOST_SLOTS * drift_of parts cut = mul-le-mul_right (drift_of parts cut) few in
    omega (arith, first, drift, up)

-- ---- the pieces

drawn-reach : (cut : CutParams) (slot v n : ℕ) → ((c : ℕ) → c < n → unsigned_abs (rise_of cut c) ≤ most_rise) →
    sum_by piece_reach (map (drawn_piece cut slot v) (range_with_len 0 n)) ≤ n * (most_rise * MOST_VOLUME)
drawn-reach cut slot v zero each = omega arith
drawn-reach cut slot v (suc n) each =
    let one : n + 1 ≡ suc n = omega arith in
    let more = ap (λ (m : ℕ). sum_by piece_reach (map (drawn_piece cut slot v) (range_with_len 0 m))) (sym one)
    ∙ ap (sum_by piece_reach) (map-range_with_len_more (drawn_piece cut slot v) 0 n n (omega arith)) in
    let split = sum_by-append piece_reach (map (drawn_piece cut slot v) (range_with_len 0 n)) (drawn_piece cut slot v n ∷ []) in
    let single = sum_by-cons piece_reach (drawn_piece cut slot v n) [] in
    let first = drawn-reach cut slot v n (λ c under. each c (omega arith)) in
    let up : unsigned_abs (rise_of cut n) * MOST_VOLUME ≤ most_rise * MOST_VOLUME = mul-le-mul_right MOST_VOLUME (each n (omega arith)) in
    omega (arith, more, split, single, first, up)

abs-taken : (n : ℕ) → unsigned_abs (neg_ℤ (pos n)) ≡ n
abs-taken n = abs-negative (pos n)

pub reaches-little : (parts : Parts) (cut : CutParams) (slot v : ℕ) → SoundPlant parts → IsCut parts cut → slot ≤ MOST_SLOTS → v < op_count_of parts →
    HasSmallReach (cut_inequality parts cut slot v).pieces
reaches-little parts cut slot v sound is few known =
    let allowed = allowed_piece parts cut slot v in
    let brought = brought_piece parts cut slot v in
    let n = crude_count_of parts in
    let crudes = sound.crudes in
    let split = sum_by-append piece_reach (drawn_pieces parts cut slot v) (allowed ∷ brought ∷ []) in
    let first = sum_by-cons piece_reach allowed (brought ∷ []) in
    let second = sum_by-cons piece_reach brought [] in
    let drawn = drawn-reach cut slot v n (λ c there. rise-small parts cut c is there) in
    let all : n * (most_rise * MOST_VOLUME) ≤ MOST_CRUDES * (most_rise * MOST_VOLUME) = mul-le-mul_right (most_rise * MOST_VOLUME) crudes.1 in
    let allowance = allowance-most parts cut slot sound is few in
    let most = most-excess-most parts cut v sound is known in
    let allowed_is = abs-taken (allowance_of parts cut slot) in
    let brought_is = abs-taken (most_excess_of parts cut v) in
    omega (arith, split, first, second, drawn, all, allowance, most, allowed_is, brought_is)
