-- Levels along a run.
use Rattle.std.proofs.Common.{◌≡◌, ℕ, zero, suc, ◌<◌, ◌≤◌, inl, inr, true, false, List, length, take, sum, refl, ap, arith}
use Rattle.std.proofs.lemmas.Bool.{cases_eq, cases_lt, cases_Bool, eq-eqb, ne_eqb}
use Rattle.plant_model.specs.declared.parts.Parts.{Parts}
use Rattle.plant_model.specs.declared.details.PlaceInfo.{PlaceInfo}
use Rattle.plant_model.specs.declared.details.PlaceKind.{PlaceKind}
use Rattle.plant_model.specs.declared.details.PlaceKind.TheVariants.{Vessel, Storage, Charging, Unit as DistillationUnit}
use Rattle.plant_model.specs.Parts.{vessel_info, storage_info, charging_info, unit_info, no_place, place_count_of, places_of, place_of, op_of}
use Rattle.plant_model.specs.Sound.{SoundPlant}
use Rattle.replay_core.specs.declared.timed.Timed.{Timed}
use Rattle.replay_core.specs.State.{initial_state, held_of, state_after}
use Rattle.replay_core.specs.Rules.{is_unit}
use Rattle.replay_core.specs.Steps.{step_at}
use Rattle.replay_core.proofs.RuleLaws.{minimum-left}
use Rattle.replay_core.proofs.StateLaws.{drawn-volume, held-first, holds_crude}
use Rattle.replay_core.proofs.PlaceLists.{at_each_place}
use Rattle.word_flows.specs.Runs.{IsRun}
use Rattle.word_flows.specs.Flows.{held_after}
use Rattle.word_flows.specs.Levels.{is_tank, MinimumsAreKept, MaximumsAreKept}
use Rattle.word_flows.proofs.RunLaws.{places_kept, soundly}
use Rattle.word_flows.proofs.FlowLaws.{total_is_additive, flow-at, held-past}

-- ---- at first

-- a place that is no tank has no minimum
NoMinimum : PlaceInfo → PlaceInfo → Type 0
NoMinimum place _ = is_tank place.kind ≡ false → place.min ≡ 0

no_minimum : (parts : Parts) (p : ℕ) → p < place_count_of parts → is_tank (place_of parts p).kind ≡ false → (place_of parts p).min ≡ 0
unfolding NoMinimum place_of places_of
no_minimum parts p within is =
    at_each_place NoMinimum parts vessel_info storage_info charging_info unit_info vessel_info storage_info charging_info unit_info
    (λ vessel no_tank. refl) (λ tank no_tank. cc) (λ tank no_tank. cc) (λ part no_tank. refl) p no_place no_place within is

tank_holds_crude : (kind : PlaceKind) → is_tank kind ≡ true → (is_unit kind ≡ false) × (kind ≡ Vessel → ⊥)
tank_holds_crude Vessel is = cc
tank_holds_crude Storage is = (refl, λ same. cc)
tank_holds_crude Charging is = (refl, λ same. cc)
tank_holds_crude DistillationUnit is = cc

-- a tank holds its minimum at first and no more than its maximum
pub tank-first : (parts : Parts) (p : ℕ) → SoundPlant parts → p < place_count_of parts → is_tank (place_of parts p).kind ≡ true →
    ((place_of parts p).min ≤ sum (held_of (initial_state parts) p)) × (sum (held_of (initial_state parts) p) ≤ (place_of parts p).max)
tank-first parts p sound within is =
    let kind = tank_holds_crude (place_of parts p).kind is in
    let holds = holds_crude (place_of parts p).kind kind.0 in
    let same = ap sum (held-first parts p sound within holds) in
    elim ((sound.each_amounts p within holds).levels) [
      | inl vessel ↦ absurd (kind.1 vessel)
      | inr levels ↦ (let low = levels.0 in let high = levels.1 in (omega arith, omega arith))
    ]

minimum-first : (parts : Parts) (p : ℕ) → SoundPlant parts → p < place_count_of parts → (place_of parts p).min ≤ sum (held_of (initial_state parts) p)
minimum-first parts p sound within =
    elim (cases_Bool (is_tank (place_of parts p).kind)) [
      | inl tank ↦ (tank-first parts p sound within tank).0
      | inr no_tank ↦ (let none = no_minimum parts p within no_tank in omega arith)
    ]

held-none : (parts : Parts) (word : List Timed) (p : ℕ) → held_after parts word p 0 ≡ held_of (initial_state parts) p
unfolding state_after
held-none parts word p = refl

-- ---- along the run

minimum-step : (parts : Parts) (word : List Timed) (p k : ℕ) → SoundPlant parts → IsRun parts word → k < length word →
    (place_of parts p).min ≤ sum (held_after parts word p k) → (place_of parts p).min ≤ sum (held_after parts word p (suc k))
minimum-step parts word p k sound run there earlier =
    let state = state_after parts (take k word) in
    let t = step_at word k in
    let op = op_of parts t.op in
    let step = flow-at sum total_is_additive parts word p k sound run there in
    let volume = drawn-volume parts state t (soundly parts word k sound run there) in
    elim (cases_eq op.from p) [
      | inl source ↦
          let left = minimum-left parts state t (places_kept parts word k run there).minimum in
          let here = rw source at left in
          let taken = rw (eq-eqb op.from p source) at step in
          omega arith
      | inr other ↦ let kept = rw (ne_eqb op.from p other) at step in omega arith
    ]

minimum_at : (parts : Parts) (word : List Timed) (p k : ℕ) → SoundPlant parts → IsRun parts word → p < place_count_of parts →
    (place_of parts p).min ≤ sum (held_after parts word p k)
minimum_at parts word p zero sound run within =
    let first = minimum-first parts p sound within in
    let same = ap sum (held-none parts word p) in
    omega arith
minimum_at parts word p (suc k) sound run within =
    let earlier = minimum_at parts word p k sound run within in
    elim (cases_lt k (length word)) [
      | inl there ↦ minimum-step parts word p k sound run there earlier
      | inr past ↦ (let same = held-past sum parts word p k past in omega arith)
    ]

maximum-step : (parts : Parts) (word : List Timed) (p k : ℕ) → SoundPlant parts → IsRun parts word → k < length word → is_unit (place_of parts p).kind ≡ false →
    sum (held_after parts word p k) ≤ (place_of parts p).max → sum (held_after parts word p (suc k)) ≤ (place_of parts p).max
maximum-step parts word p k sound run there not_unit earlier =
    let state = state_after parts (take k word) in
    let t = step_at word k in
    let op = op_of parts t.op in
    let runs = soundly parts word k sound run there in
    let step = flow-at sum total_is_additive parts word p k sound run there in
    let volume = drawn-volume parts state t runs in
    elim (cases_eq op.to p) [
      | inl target ↦
          let taken = rw (eq-eqb op.to p target) at step in
          elim runs.room [
            | inl unit ↦ let here = rw target at unit in cc
            | inr room ↦ let here = rw target at room in omega arith
          ]
      | inr other ↦ let kept = rw (ne_eqb op.to p other) at step in omega arith
    ]

maximum_at : (parts : Parts) (word : List Timed) (p k : ℕ) → SoundPlant parts → IsRun parts word → p < place_count_of parts →
    is_tank (place_of parts p).kind ≡ true → sum (held_after parts word p k) ≤ (place_of parts p).max
maximum_at parts word p zero sound run within is =
    let first = (tank-first parts p sound within is).1 in
    let same = ap sum (held-none parts word p) in
    omega arith
maximum_at parts word p (suc k) sound run within is =
    let earlier = maximum_at parts word p k sound run within is in
    elim (cases_lt k (length word)) [
      | inl there ↦ maximum-step parts word p k sound run there (tank_holds_crude (place_of parts p).kind is).0 earlier
      | inr past ↦ (let same = held-past sum parts word p k past in omega arith)
    ]

pub minimums_are_kept : (parts : Parts) → SoundPlant parts → MinimumsAreKept parts
minimums_are_kept parts sound word p k run within = minimum_at parts word p k sound run within

pub maximums_are_kept : (parts : Parts) → SoundPlant parts → MaximumsAreKept parts
maximums_are_kept parts sound word p k run within tank = maximum_at parts word p k sound run within tank
