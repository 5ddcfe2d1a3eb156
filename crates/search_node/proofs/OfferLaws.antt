-- What plans earn may be offered.
use Rattle.std.proofs.Common.{◌≡◌, ℕ, zero, suc, ◌+◌, ◌*◌, ◌<◌, ◌≤◌, max, Bool, true, false, ℤ, pos, negsuc, neg_ℤ, ◌-ℤ◌, ◌≤ℤ◌, unsigned_abs, if◌then◌else◌, List, [], ◌∷◌, length, sym, subst, arith}
use Rattle.std.specs.Prelude.{All, fold}
use native.Mathlib.Nat.{mul-le-mul}
use Rattle.std.proofs.lemmas.Int.{ints}
use Rattle.std.proofs.lemmas.List.Elements.{All-head, All-tail, All-weaker}
use Rattle.limits.specs.declared.TheConstants.{MOST_DEMURRAGE, MOST_HORIZON, MOST_OFFER}
use Rattle.number_laws.specs.Sums.{sum_below}
use Rattle.number_laws.proofs.SumLaws.{sum_below-suc}
use Rattle.plant_model.specs.declared.parts.Parts.{Parts}
use Rattle.plant_model.specs.Parts.{place_count_of, place_of}
use Rattle.plant_model.specs.Sound.{SoundPlant}
use Rattle.replay_core.specs.declared.order.Order.TheVariants.{ByStart}
use Rattle.replay_core.specs.declared.timed.Timed.{Timed}
use Rattle.replay_core.specs.Counts.{last_end_of, unloads_from}
use Rattle.replay_core.specs.Legal.{IsInRange, StepsAreInRange}
use Rattle.replay_core.specs.Margin.{demurrage_of, earned_of, margin_of, wait_of}
use Rattle.replay_core.proofs.MarginLaws.{earns_within-accepted}
use Rattle.replay_core.proofs.StepLaws.{CanRun-legal}
use Rattle.search_node.specs.Laws.{PlansMayBeOffered}

-- ---- what vessels pay

latest-most : (chosen : Timed → Bool) (minute : Timed → ℕ) (steps : List Timed) (from most : ℕ) → from ≤ most → All (λ t. minute t ≤ most) steps →
    fold (λ (last : ℕ) (t : Timed). if chosen t then max last (minute t) else last) from steps ≤ most
latest-most chosen minute [] from most less each = less
latest-most chosen minute (t ∷ steps) from most less each =
    latest-most chosen minute steps (if chosen t then max from (minute t) else from) most (one (chosen t)) (All-tail (λ s. minute s ≤ most) t steps each)
  where
    one : (b : Bool) → (if b then max from (minute t) else from) ≤ most
    one true = (let here = All-head (λ s. minute s ≤ most) t steps each in omega (arith, here, less))
    one false = less

sum-most : (n most : ℕ) (f : ℕ → ℕ) → ((k : ℕ) → k < n → f k ≤ most) → sum_below n f ≤ n * most
sum-most zero most f each = omega arith
sum-most (suc n) most f each =
    let rest = sum-most n most f (λ k below. each k (omega (arith, below))) in
    let one = each n (omega arith) in
    let more = sum_below-suc n f in
    let next : suc n ≡ n + 1 = omega arith in
    subst (λ (m : ℕ). sum_below m f ≤ m * most) (sym next) (omega (arith, more, one, rest))

demurrage-most : (parts : Parts) (plan : List Timed) → SoundPlant parts → All (IsInRange parts) plan →
    demurrage_of parts plan ≤ place_count_of parts * (MOST_DEMURRAGE * MOST_HORIZON)
unfolding demurrage_of last_end_of
demurrage-most parts plan sound ranges =
    sum-most (place_count_of parts) (MOST_DEMURRAGE * MOST_HORIZON) (λ p. (place_of parts p).demurrage * wait_of parts plan p)
    (λ p known.
    let last = latest-most (unloads_from parts p) (λ (t : Timed). t.end) plan 0 MOST_HORIZON (omega arith) ends in
    let pays = (sound.each_place p known).demurrage in
    let waits : wait_of parts plan p ≤ MOST_HORIZON = omega (arith, last) in
    mul-le-mul pays waits)
  where
    ends : All (λ (t : Timed). t.end ≤ MOST_HORIZON) plan
    ends = All-weaker (IsInRange parts) (λ (t : Timed). t.end ≤ MOST_HORIZON)
        (λ t is. let to = is.to_window in let op = (sound.each_op t.op is.known).within_horizon in omega (arith, to, op, sound.horizon.1)) plan ranges

-- ---- what plans earn

pub plans_may_be_offered : (parts : Parts) → SoundPlant parts → StepsAreInRange parts → PlansMayBeOffered parts
unfolding margin_of
plans_may_be_offered parts sound in_range n planned few plan =
    let steps = planned.plan in
    let earns = earns_within-accepted parts ByStart steps sound (CanRun-legal parts ByStart steps plan.legal) in
    let paid = demurrage-most parts steps sound (in_range ByStart steps plan.legal) in
    size planned.margin (earned_of parts steps) (demurrage_of parts steps) (sym plan.earns) earns.low earns.high (omega (arith, paid, sound.places)) plan.short few
  where
    size : (margin earned : ℤ) (paid : ℕ) → margin ≡ earned -ℤ pos paid → neg_ℤ (pos (10000000000000 * length planned.plan)) ≤ℤ earned →
        earned ≤ℤ pos (10000000000000 * length planned.plan) → paid ≤ 42 * 100000000 → length planned.plan ≤ n → n ≤ 40 → unsigned_abs margin ≤ MOST_OFFER
    size (pos m) earned paid same low high most short few = omega (arith, ints, same, low, high, most, short, few)
    size (negsuc m) earned paid same low high most short few = omega (arith, ints, same, low, high, most, short, few)
