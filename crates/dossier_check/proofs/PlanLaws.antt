-- The first rule that a plan breaks, as a reason.
use Rattle.std.proofs.Common.{◌≡◌, ℕ, ◌+◌, ◌<◌, ◌≤◌, Bool, true, false, Some, None, List, [], ◌∷◌, ◌++◌, length, map, take, get_or, refl, sym, ap, ◌∙◌, subst, arith, length-append}
use Rattle.std.specs.Prelude.{nat_le}
use Rattle.std.specs.List.{AllByRecursion}
use Rattle.std.proofs.lemmas.Bool.{leb-true}
use Rattle.std.proofs.lemmas.List.{take_more, map-append}
use Rattle.item_lists.specs.Faults.{first_of, unless, each_from}
use Rattle.item_lists.proofs.FaultLaws.{first_of-front, first_of-back, nil_of_none, holds_of_nil}
use Rattle.plant_model.specs.declared.parts.Parts.{Parts}
use Rattle.plant_model.specs.declared.details.PlaceInfo.{PlaceInfo}
use Rattle.plant_model.specs.Parts.{places_of}
use Rattle.plan_text.specs.declared.op_line.OpLine.{OpLine}
use Rattle.replay_core.specs.declared.broken.Broken.{Broken}
use Rattle.replay_core.specs.declared.order.Order.{Order}
use Rattle.replay_core.specs.declared.order.Order.TheVariants.{ByStart}
use Rattle.replay_core.specs.declared.timed.Timed.{Timed}
use Rattle.replay_core.specs.Rules.{is_known, lasts, keeps_window, keeps_volume, meets_rate, keeps_order, waits_for_others, keeps_vessel_order, leaves_minimum, keeps_maximum, meets_limits, is_emptied, meets_demand, meets_charges}
use Rattle.replay_core.specs.State.{state_after}
use Rattle.replay_core.specs.Legal.{broken, own_faults, order_faults, place_faults, op_faults, step_faults_from, step_faults, vessel_faults, demand_faults, unit_faults, end_faults, faults_at_places, plan_faults, first_broken, first_broken_in}
use Rattle.dossier_check.specs.declared.verdict.Reason.{Reason}
use Rattle.plan_text.specs.Plans.{timed_of, plan_of}
use Rattle.dossier_check.specs.Reasons.{rule_reason}

-- ---- the operations of lines

pub steps_more : (parts : Parts) (lines : List OpLine) (i : ℕ) (line : OpLine) → i < length lines → line ≡ get_or lines i line →
    plan_of parts (take i lines) ++ timed_of parts line ∷ [] ≡ plan_of parts (take (i + 1) lines)
steps_more parts lines i line within is =
    ap (λ x. plan_of parts (take i lines) ++ timed_of parts x ∷ []) is
    ∙ sym (ap (plan_of parts) (take_more lines i line within) ∙ map-append (timed_of parts) (take i lines) (get_or lines i line ∷ []))

-- ---- the first broken rule

first_of-map : {X Y : Type 0} (f : X → Y) (xs : List X) (x : X) → first_of xs ≡ Some x → first_of (map f xs) ≡ Some (f x)
first_of-map f [] x found = cc
first_of-map f (y ∷ xs) x found = let same : y ≡ x = cc in ap (λ z. Some (f z)) same

none_of-map : {X Y : Type 0} (f : X → Y) (xs : List X) → first_of xs ≡ None → first_of (map f xs) ≡ None
none_of-map f [] none = refl
none_of-map f (y ∷ xs) none = cc

-- a plan with a broken rule has its reason
pub broken_reason : (parts : Parts) (plan : List Timed) (broken : Broken) → first_broken parts plan ≡ Some broken →
    first_of (map rule_reason (plan_faults parts ByStart plan)) ≡ Some (rule_reason broken)
unfolding first_broken_in
broken_reason parts plan broken found = first_of-map rule_reason (plan_faults parts ByStart plan) broken found

-- a legal plan has none
pub legal_reason : (parts : Parts) (plan : List Timed) → first_broken parts plan ≡ None → first_of (map rule_reason (plan_faults parts ByStart plan)) ≡ None
unfolding first_broken_in
legal_reason parts plan none = none_of-map rule_reason (plan_faults parts ByStart plan) none

pub ruleset plan_reason = (first_of-front, first_of-back, broken_reason, legal_reason)

-- a plan that passes the test of its length is short
pub short_by_none : (n most : ℕ) (fault : Reason) → first_of (unless (nat_le n most) fault) ≡ None → n ≤ most
short_by_none n most fault none = leb-true n most (holds_of_nil (nat_le n most) fault (nil_of_none _ none))

-- ---- the operation that breaks a rule is one of the plan

-- a rule on an operation is broken by one of the first so many
abbrev HasLine : ℕ → Broken → Type 0
HasLine most fault = fault.rule ≤ 11 → fault.at ≤ most

record HaveLines (most : ℕ) (faults : List Broken) : Type 0 where
  each : AllByRecursion (HasLine most) faults

joined : (most : ℕ) (front back : List Broken) → HaveLines most front → HaveLines most back → HaveLines most (front ++ back)
joined most [] back first second = second
joined most (fault ∷ front) back first second =
    let rest = joined most front back (record { each = first.each.1 }) second in record { each = (first.each.0, rest.each) }

tested : (most : ℕ) (test : Bool) (fault : Broken) → HasLine most fault → HaveLines most (unless test fault)
tested most true fault is = record { each = tt }
tested most false fault is = record { each = (is, tt) }

lines_of : {X : Type 0} (most : ℕ) (faults : ℕ → X → List Broken) → ((i : ℕ) (x : X) → HaveLines most (faults i x)) → (index : ℕ) (xs : List X) →
    HaveLines most (each_from faults index xs)
lines_of most faults all index [] = record { each = tt }
lines_of most faults all index (x ∷ xs) = joined most (faults index x) (each_from faults (index + 1) xs) (all index x) (lines_of most faults all (index + 1) xs)

found_line : (most : ℕ) (faults : List Broken) (broken : Broken) → HaveLines most faults → first_of faults ≡ Some broken → HasLine most broken
found_line most [] broken all found = cc
found_line most (fault ∷ faults) broken all found = let same : fault ≡ broken = cc in subst (HasLine most) same all.each.0

-- a rule on an operation of the plan
early : (most : ℕ) (test : Bool) (rule at : ℕ) → at ≤ most → HaveLines most (unless test (broken rule at))
early most test rule at within = tested most test (broken rule at) (λ few. within)

-- a rule on the end of the plan
late : (most : ℕ) (test : Bool) (rule at : ℕ) → 12 ≤ rule → HaveLines most (unless test (broken rule at))
late most test rule at high = tested most test (broken rule at) (λ few. absurd (omega arith))

own_lines : (most : ℕ) (parts : Parts) (t : Timed) (at : ℕ) → at ≤ most → HaveLines most (own_faults parts t at)
unfolding own_faults
own_lines most parts t at within =
    joined most _ _ (joined most _ _
    (joined most _ _ (joined most _ _ (early most (is_known parts t) 1 at within) (early most (lasts t) 2 at within))
    (early most (keeps_window parts t) 3 at within)) (early most (keeps_volume parts t) 4 at within)) (early most (meets_rate parts t) 5 at within)

order_lines : (most : ℕ) (parts : Parts) (order : Order) (before : List Timed) (t : Timed) (at : ℕ) → at ≤ most →
    HaveLines most (order_faults parts order before t at)
unfolding order_faults
order_lines most parts order before t at within = early most (keeps_order parts order before t) 6 at within

place_lines : (most : ℕ) (parts : Parts) (before : List Timed) (t : Timed) (at : ℕ) → at ≤ most → HaveLines most (place_faults parts before t at)
unfolding place_faults
place_lines most parts before t at within =
    joined most _ _ (joined most _ _
    (joined most _ _ (joined most _ _ (early most (waits_for_others parts before t) 7 at within) (early most (keeps_vessel_order parts before t) 8 at within))
    (early most (leaves_minimum parts (state_after parts before) t) 9 at within)) (early most
    (keeps_maximum parts (state_after parts before) t) 10 at within)) (early most (meets_limits parts (state_after parts before) t) 11 at within)

op_lines : (most : ℕ) (parts : Parts) (order : Order) (before : List Timed) (t : Timed) (at : ℕ) → at ≤ most →
    HaveLines most (op_faults parts order before t at)
unfolding op_faults
op_lines most parts order before t at within =
    joined most _ _ (joined most _ _ (own_lines most parts t at within) (order_lines most parts order before t at within))
    (place_lines most parts before t at within)

step_lines : (most : ℕ) (parts : Parts) (order : Order) (before later : List Timed) → length before + length later ≤ most →
    HaveLines most (step_faults_from parts order before later)
step_lines most parts order before [] within = record { each = tt }
step_lines most parts order before (t ∷ later) within =
    joined most (op_faults parts order before t (length before + 1)) (step_faults_from parts order (before ++ t ∷ []) later)
    (op_lines most parts order before t (length before + 1) (omega arith))
    (step_lines most parts order (before ++ t ∷ []) later (omega (arith, length-append before (t ∷ []))))

places_lines : (most : ℕ) (parts : Parts) (rule : ℕ) (holds : ℕ → PlaceInfo → Bool) → 12 ≤ rule → HaveLines most (faults_at_places parts rule holds)
places_lines most parts rule holds high =
    lines_of most (λ p (place : PlaceInfo). unless (holds p place) (broken rule p)) (λ p (place : PlaceInfo). late most (holds p place) rule p high) 0
    (places_of parts)

vessel_lines : (most : ℕ) (parts : Parts) (plan : List Timed) → HaveLines most (vessel_faults parts plan)
unfolding vessel_faults
vessel_lines most parts plan = places_lines most parts 12 (is_emptied (state_after parts plan)) (omega arith)

demand_lines : (most : ℕ) (parts : Parts) (plan : List Timed) → HaveLines most (demand_faults parts plan)
unfolding demand_faults
demand_lines most parts plan = places_lines most parts 13 (meets_demand parts plan) (omega arith)

unit_lines : (most : ℕ) (parts : Parts) (plan : List Timed) → HaveLines most (unit_faults parts plan)
unfolding unit_faults
unit_lines most parts plan = places_lines most parts 14 (meets_charges parts plan) (omega arith)

end_lines : (most : ℕ) (parts : Parts) (plan : List Timed) → HaveLines most (end_faults parts plan)
unfolding end_faults
end_lines most parts plan = joined most _ _ (joined most _ _ (vessel_lines most parts plan) (demand_lines most parts plan)) (unit_lines most parts plan)

plan_lines : (most : ℕ) (parts : Parts) (plan : List Timed) → length plan ≤ most → HaveLines most (plan_faults parts ByStart plan)
unfolding plan_faults step_faults
plan_lines most parts plan within = joined most _ _ (step_lines most parts ByStart [] plan (omega arith)) (end_lines most parts plan)

pub broken_line : (most : ℕ) (parts : Parts) (plan : List Timed) (broken : Broken) → length plan ≤ most → first_broken parts plan ≡ Some broken →
    broken.rule ≤ 11 → broken.at ≤ most
unfolding first_broken_in
broken_line most parts plan broken within found = found_line most (plan_faults parts ByStart plan) broken (plan_lines most parts plan within) found
