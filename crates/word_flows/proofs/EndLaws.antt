-- What stands at the end of a word that breaks no rule.
use Rattle.std.proofs.Common.{◌≡◌, ℕ, ◌+◌, ◌<◌, Bool, true, List, [], ◌++◌, get_or, sum, ap, subst, arith}
use Rattle.std.specs.Prelude.{not, ◌&&◌, ◌||◌, ◌==◌}
use Rattle.std.proofs.lemmas.Bool.{and_parts, eqb-true}
use Rattle.item_lists.specs.Faults.{unless}
use Rattle.item_lists.proofs.FaultLaws.{nil_of_append, nil_of_none, holds_of_nil, each_of_nil}
use Rattle.plant_model.specs.declared.parts.Parts.{Parts}
use Rattle.plant_model.specs.declared.details.PlaceInfo.{PlaceInfo}
use Rattle.plant_model.specs.declared.details.PlaceKind.TheVariants.{Vessel, Charging, Unit as DistillationUnit}
use Rattle.plant_model.specs.Parts.{no_place, horizon_of, place_count_of, places_of, place_of}
use Rattle.plant_model.proofs.PlaceLists.{length-places_of}
use Rattle.replay_core.specs.declared.timed.Timed.{Timed}
use Rattle.replay_core.specs.declared.order.Order.{Order}
use Rattle.replay_core.specs.State.{held_of, state_after}
use Rattle.replay_core.specs.Counts.{charges_of, minutes_of, charged_of}
use Rattle.replay_core.specs.Rules.{is_inside, is_vessel, is_charging, is_unit, is_emptied, meets_demand, meets_charges}
use Rattle.replay_core.specs.Legal.{broken, step_faults, faults_at_places, vessel_faults, demand_faults, unit_faults, end_faults, plan_faults, first_broken_in, IsLegalIn}
use Rattle.replay_core.proofs.StepLaws.{CanRun-legal}
use Rattle.word_flows.specs.Ends.{EndsWell, LegalWordsEndWell}
use Rattle.word_flows.specs.Steps.{IsInside}
use Rattle.word_flows.proofs.RunLaws.{can_run_is_run}
use Rattle.word_flows.proofs.StepLaws.{asked, inside}

-- ---- at each place

holds_at_place : (parts : Parts) (rule : ℕ) (holds : ℕ → PlaceInfo → Bool) → faults_at_places parts rule holds ≡ [] → (p : ℕ) → p < place_count_of parts →
    holds p (place_of parts p) ≡ true
unfolding place_of
holds_at_place parts rule holds none p there =
    let count = length-places_of parts in
    let faults = λ (q : ℕ) (place : PlaceInfo). unless (holds q place) (broken rule q) in
    let here = each_of_nil faults 0 p (places_of parts) no_place none (omega arith) in
    let same : 0 + p ≡ p = omega arith in
    holds_of_nil (holds p (place_of parts p)) (broken rule p) (subst (λ (n : ℕ). faults n (get_or (places_of parts) p no_place) ≡ []) same here)

record KeepsEndRules (parts : Parts) (word : List Timed) (p : ℕ) : Type 0 where
  emptied : is_emptied (state_after parts word) p (place_of parts p) ≡ true
  demand : meets_demand parts word p (place_of parts p) ≡ true
  charges : meets_charges parts word p (place_of parts p) ≡ true

no_end_faults : (parts : Parts) (order : Order) (word : List Timed) → IsLegalIn parts order word → end_faults parts word ≡ []
unfolding first_broken_in plan_faults
no_end_faults parts order word legal =
    (nil_of_append (step_faults parts order word) (end_faults parts word) (nil_of_none (step_faults parts order word ++ end_faults parts word) legal)).1

end_rules_kept : (parts : Parts) (word : List Timed) → end_faults parts word ≡ [] → (p : ℕ) → p < place_count_of parts → KeepsEndRules parts word p
unfolding end_faults vessel_faults demand_faults unit_faults
end_rules_kept parts word none p there =
    let last = nil_of_append (vessel_faults parts word ++ demand_faults parts word) (unit_faults parts word) none in
    let first = nil_of_append (vessel_faults parts word) (demand_faults parts word) last.0 in
    record {
      emptied = holds_at_place parts 12 (is_emptied (state_after parts word)) first.0 p there;
      demand = holds_at_place parts 13 (meets_demand parts word) first.1 p there;
      charges = holds_at_place parts 14 (meets_charges parts word) last.1 p there;
    }

-- ---- by the kind of the place

empty : (parts : Parts) (word : List Timed) (p : ℕ) → KeepsEndRules parts word p → (place_of parts p).kind ≡ Vessel →
    sum (held_of (state_after parts word) p) ≡ 0
unfolding is_emptied
empty parts word p kept is =
    eqb-true (sum (held_of (state_after parts word) p)) 0
    (asked (is_vessel (place_of parts p).kind) (sum (held_of (state_after parts word) p) == 0) kept.emptied (ap is_vessel is))

demanded : (parts : Parts) (word : List Timed) (p : ℕ) → KeepsEndRules parts word p → (place_of parts p).kind ≡ Charging →
    IsInside (place_of parts p).demand (charged_of parts word p)
unfolding meets_demand
demanded parts word p kept is =
    let place = place_of parts p in
    inside place.demand (charged_of parts word p)
    (asked (is_charging place.kind) (is_inside place.demand (charged_of parts word p)) kept.demand (ap is_charging is))

unit-kept : (parts : Parts) (word : List Timed) (p : ℕ) → KeepsEndRules parts word p → (place_of parts p).kind ≡ DistillationUnit →
    ((not (place_of parts p).continuous || minutes_of parts word p == horizon_of parts) ≡ true) ×
    (is_inside (place_of parts p).charges (charges_of parts word p) ≡ true)
unfolding meets_charges
unit-kept parts word p kept is =
    let place = place_of parts p in
    let minutes = not place.continuous || minutes_of parts word p == horizon_of parts in
    let charges = is_inside place.charges (charges_of parts word p) in
    and_parts minutes charges (asked (is_unit place.kind) (minutes && charges) kept.charges (ap is_unit is))

ends_well : (parts : Parts) (word : List Timed) → ((p : ℕ) → p < place_count_of parts → KeepsEndRules parts word p) → EndsWell parts word
ends_well parts word each = record {
  vessels = λ p there is. empty parts word p (each p there) is;
  demands = λ p there is. demanded parts word p (each p there) is;
  charges = λ p there is. inside (place_of parts p).charges (charges_of parts word p) (unit-kept parts word p (each p there) is).1;
  minutes = λ p there is continuous.
      eqb-true (minutes_of parts word p) (horizon_of parts)
      (asked (place_of parts p).continuous (minutes_of parts word p == horizon_of parts) (unit-kept parts word p (each p there) is).0 continuous);
}

pub legal_words_end_well : (parts : Parts) → LegalWordsEndWell parts
legal_words_end_well parts order word legal = (
  can_run_is_run parts order word (CanRun-legal parts order word legal),
  ends_well parts word (end_rules_kept parts word (no_end_faults parts order word legal)),
)
