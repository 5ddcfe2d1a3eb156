-- What holds of the state: how many crudes each place has, and how much at most.
use Rattle.std.proofs.Common.{◌≡◌, ◌≢◌, ◌⊎◌, ℕ, ◌+◌, ◌*◌, ◌<◌, ◌≤◌, true, false, List, [], ◌∷◌, ◌++◌, map, length, get_or, set, sum, replicate, refl, sym, ap, subst, inl, inr, ◌∙◌, arith, get_or-set_same, get_or-set_other, ℤ}
use Rattle.std.proofs.lemmas.List.{length-set, length-replicate, length_push}
use Rattle.std.proofs.lemmas.List.Sums.{fold_push}
use Rattle.std.proofs.lemmas.List.Folds.{sum_by-replicate}
use Rattle.std.proofs.lemmas.Bool.{cases_eq, cases_Bool}
use Rattle.crude_amounts.specs.Amounts.{mix_of, rest_of}
use Rattle.crude_amounts.proofs.DrawLaws.{length-draw_of, sum-draw_of, draw_of-within}
use Rattle.crude_amounts.proofs.MixLaws.{length-mix_of, sum-mix_of, length-rest_of, sum-rest_of}
use Rattle.plant_model.specs.declared.parts.Parts.{Parts}
use Rattle.plant_model.specs.declared.details.PlaceKind.{PlaceKind}
use Rattle.plant_model.specs.declared.details.PlaceKind.TheVariants.{Vessel, Storage, Charging, Unit as DistillationUnit}
use Rattle.plant_model.specs.declared.details.PlaceInfo.{PlaceInfo}
use Rattle.plant_model.specs.declared.details.OpKind.{OpKind}
use Rattle.plant_model.specs.declared.details.OpKind.TheVariants.{Unload, Transfer, Charge}
use Rattle.plant_model.specs.declared.details.Op.{Op}
use Rattle.plant_model.specs.Parts.{natural, vessel_info, storage_info, charging_info, unit_info, no_place, crude_count_of, place_count_of, places_of, place_of, place_amounts_of, initial_amounts_of, op_of}
use Rattle.plant_model.specs.Sound.{HoldsCrude, IsRoute, SoundOp, SoundPlant}
use Rattle.plant_model.proofs.PlaceLists.{length-per_place}
use Rattle.replay_core.specs.declared.timed.Timed.{Timed}
use Rattle.replay_core.specs.declared.order.Order.{Order}
use Rattle.replay_core.specs.State.{initial_state, held_of, drawn_of, moved, after_step, state_after}
use Rattle.replay_core.specs.Rules.{is_unit}
use Rattle.replay_core.specs.inside.Levels.{HoldsWithin}
use Rattle.replay_core.specs.Legal.{CanRun}
use Rattle.replay_core.proofs.StepLaws.{along_accepted}
use Rattle.replay_core.proofs.RuleLaws.{RunsSoundly, runs_soundly}
use Rattle.replay_core.proofs.PlaceLists.{at_each_place}

-- ---- kinds of places

pub holds_crude : (kind : PlaceKind) → is_unit kind ≡ false → HoldsCrude kind
holds_crude Vessel not_unit = search
holds_crude Storage not_unit = search
holds_crude Charging not_unit = search
holds_crude DistillationUnit not_unit = cc

pub not_unit_of_holds : (kind : PlaceKind) → HoldsCrude kind → is_unit kind ≡ false
not_unit_of_holds Vessel holds = refl
not_unit_of_holds Storage holds = refl
not_unit_of_holds Charging holds = refl
not_unit_of_holds DistillationUnit holds = absurd holds

-- an operation draws from no unit, and fills another place than it draws from
source-kind : (kind : OpKind) (from to : PlaceKind) → IsRoute kind from to → is_unit from ≡ false
source-kind Unload from to route = ap is_unit route.0
source-kind Transfer from to route = ap is_unit route.0
source-kind Charge from to route = ap is_unit route.0

kinds_apart : (kind : OpKind) (from to : PlaceKind) → IsRoute kind from to → from ≡ to → ⊥
kinds_apart Unload from to route same = (let a : Vessel ≡ Storage = sym route.0 ∙ same ∙ route.1 in cc)
kinds_apart Transfer from to route same = (let a : Storage ≡ Charging = sym route.0 ∙ same ∙ route.1 in cc)
kinds_apart Charge from to route same = (let a : Charging ≡ DistillationUnit = sym route.0 ∙ same ∙ route.1 in cc)

pub source_is_no_unit : (parts : Parts) (op : Op) → SoundOp parts op → is_unit (place_of parts op.from).kind ≡ false
source_is_no_unit parts op sound = source-kind op.kind (place_of parts op.from).kind (place_of parts op.to).kind sound.route

pub places_apart : (parts : Parts) (op : Op) → SoundOp parts op → op.from ≢ op.to
places_apart parts op sound same = kinds_apart op.kind (place_of parts op.from).kind (place_of parts op.to).kind sound.route
    (ap (λ p. (place_of parts p).kind) same)

-- ---- before the first operation

pub length-initial_state : (parts : Parts) → length (initial_state parts) ≡ place_count_of parts
unfolding initial_state
length-initial_state parts = length-per_place _ _ _ _ parts

-- what a place is given is what it holds at first, or it is given nothing and is empty
StartsWith : ℕ → List ℤ → List ℕ → Type 0
StartsWith crudes given held = (held ≡ map natural given) ⊎ ((given ≡ []) × (held ≡ replicate crudes 0))

starts_with : (parts : Parts) (p : ℕ) → p < place_count_of parts → StartsWith (crude_count_of parts) (get_or (place_amounts_of parts) p [])
    (held_of (initial_state parts) p)
unfolding StartsWith place_amounts_of initial_state
starts_with parts p within =
    at_each_place (StartsWith (crude_count_of parts)) parts
    (λ vessel. vessel.amounts) (λ tank. tank.amounts) (λ tank. tank.amounts) (λ part. [])
    (λ vessel. map natural vessel.amounts) (λ tank. map natural tank.amounts) (λ tank. map natural tank.amounts) (λ part. replicate (crude_count_of parts) 0)
    (λ vessel. inl refl) (λ tank. inl refl) (λ tank. inl refl) (λ part. inr (refl, refl))
    p [] [] within

-- a vessel or a tank holds what it is given
pub held-first : (parts : Parts) (p : ℕ) → SoundPlant parts → p < place_count_of parts → HoldsCrude (place_of parts p).kind → held_of (initial_state parts) p
    ≡ initial_amounts_of parts p
unfolding StartsWith initial_amounts_of
held-first parts p sound within holds =
    elim (starts_with parts p within) [
      | inl held ↦ held
      | inr empty ↦
          let crudes : length (initial_amounts_of parts p) ≡ crude_count_of parts = (sound.each_amounts p within holds).each_crude in
          let none : length (initial_amounts_of parts p) ≡ 0 = ap (λ given. length (map natural given)) empty.0 in
          let some : 1 ≤ crude_count_of parts = sound.crudes.0 in
          absurd (omega arith)
    ]

-- a unit is empty
EmptyUnit : ℕ → PlaceInfo → List ℕ → Type 0
EmptyUnit crudes place held = is_unit place.kind ≡ true → held ≡ replicate crudes 0

pub held-first_unit : (parts : Parts) (p : ℕ) → p < place_count_of parts → is_unit (place_of parts p).kind ≡ true → held_of (initial_state parts) p
    ≡ replicate (crude_count_of parts) 0
unfolding EmptyUnit place_of places_of initial_state
held-first_unit parts p within is =
    at_each_place (EmptyUnit (crude_count_of parts)) parts
    vessel_info storage_info charging_info unit_info
    (λ vessel. map natural vessel.amounts) (λ tank. map natural tank.amounts) (λ tank. map natural tank.amounts) (λ part. replicate (crude_count_of parts) 0)
    (λ vessel unit. cc) (λ tank unit. cc) (λ tank unit. cc) (λ part unit. refl)
    p no_place [] within is

-- ---- while operations run

first-crudes : (parts : Parts) (p : ℕ) → SoundPlant parts → p < place_count_of parts → length (held_of (initial_state parts) p) ≡ crude_count_of parts
first-crudes parts p sound within =
    elim (cases_Bool (is_unit (place_of parts p).kind)) [
      | inl unit ↦ ap length (held-first_unit parts p within unit) ∙ length-replicate (crude_count_of parts) 0
      | inr not_unit ↦ ap length (held-first parts p sound within (holds_crude (place_of parts p).kind not_unit))
          ∙ (sound.each_amounts p within (holds_crude (place_of parts p).kind not_unit)).each_crude
    ]

first-total : (parts : Parts) (p : ℕ) → SoundPlant parts → p < place_count_of parts → sum (held_of (initial_state parts) p) ≤ 10000000
first-total parts p sound within =
    elim (cases_Bool (is_unit (place_of parts p).kind)) [
      | inl unit ↦ (let none = ap sum (held-first_unit parts p within unit) ∙ sum_by-replicate (λ (x : ℕ). x) (crude_count_of parts) 0 in omega arith)
      | inr not_unit ↦
          let total : sum (initial_amounts_of parts p) ≤ 10000000 = (sound.each_amounts p within (holds_crude (place_of parts p).kind not_unit)).total in
          let same = ap sum (held-first parts p sound within (holds_crude (place_of parts p).kind not_unit)) in
          omega arith
    ]

pub holds_within-first : (parts : Parts) → SoundPlant parts → HoldsWithin parts 0 (initial_state parts)
holds_within-first parts sound = record {
  count = length-initial_state parts;
  crudes = λ p within. first-crudes parts p sound within;
  tanks = λ p within not_unit. first-total parts p sound within;
  all = λ p within. (let total = first-total parts p sound within in omega arith);
}

-- ---- what is moved

pub length-moved : (state : List (List ℕ)) (from to : ℕ) (amounts : List ℕ) → length (moved state from to amounts) ≡ length state
length-moved state from to amounts =
    let left = set state from (rest_of (held_of state from) amounts) in
    length-set left to (mix_of (held_of left to) amounts) ∙ length-set state from (rest_of (held_of state from) amounts)

pub moved-source : (state : List (List ℕ)) (from to : ℕ) (amounts : List ℕ) → from < length state → from ≢ to → held_of (moved state from to amounts) from
    ≡ rest_of (held_of state from) amounts
moved-source state from to amounts within apart =
    let left = set state from (rest_of (held_of state from) amounts) in
    get_or-set_other left to from (mix_of (held_of left to) amounts) [] apart ∙ get_or-set_same state from (rest_of (held_of state from) amounts) [] within

pub moved-target : (state : List (List ℕ)) (from to : ℕ) (amounts : List ℕ) → to < length state → from ≢ to → held_of (moved state from to amounts) to
    ≡ mix_of (held_of state to) amounts
moved-target state from to amounts within apart =
    let left = set state from (rest_of (held_of state from) amounts) in
    let count = length-set state from (rest_of (held_of state from) amounts) in
    let other : to ≢ from = λ same. apart (sym same) in
    get_or-set_same left to (mix_of (held_of left to) amounts) [] (omega arith)
    ∙ ap (λ held. mix_of held amounts) (get_or-set_other state from to (rest_of (held_of state from) amounts) [] other)

pub moved-other : (state : List (List ℕ)) (from to p : ℕ) (amounts : List ℕ) → p ≢ from → p ≢ to → held_of (moved state from to amounts) p ≡ held_of state p
moved-other state from to p amounts not_source not_target =
    let left = set state from (rest_of (held_of state from) amounts) in
    get_or-set_other left to p (mix_of (held_of left to) amounts) [] not_target ∙ get_or-set_other state from p (rest_of (held_of state from) amounts) []
    not_source

-- ---- one operation

-- what is drawn has each crude, and is the volume
pub drawn-crudes : (parts : Parts) (state : List (List ℕ)) (t : Timed) → length (drawn_of parts state t) ≡ length (held_of state (op_of parts t.op).from)
unfolding drawn_of
drawn-crudes parts state t = length-draw_of (held_of state (op_of parts t.op).from) t.volume

pub drawn-volume : (parts : Parts) (state : List (List ℕ)) (t : Timed) → RunsSoundly parts state t → sum (drawn_of parts state t) ≡ t.volume
unfolding drawn_of
drawn-volume parts state t runs = (let there = runs.there in let some = runs.some in sum-draw_of (held_of state (op_of parts t.op).from) t.volume (omega arith))

drawn-within : (parts : Parts) (state : List (List ℕ)) (t : Timed) (c : ℕ) → RunsSoundly parts state t → get_or (drawn_of parts state t) c 0
    ≤ get_or (held_of state (op_of parts t.op).from) c 0
unfolding drawn_of
drawn-within parts state t c runs = (let there = runs.there in let some = runs.some in
    draw_of-within (held_of state (op_of parts t.op).from) t.volume c (omega arith) there)

-- what a place holds after the operation: the source, the destination, another
after-source : (parts : Parts) (n : ℕ) (state : List (List ℕ)) (t : Timed) → HoldsWithin parts n state → RunsSoundly parts state t →
    (length (held_of (after_step parts state t) (op_of parts t.op).from) ≡ crude_count_of parts) ×
    (sum (held_of (after_step parts state t) (op_of parts t.op).from) + t.volume ≡ sum (held_of state (op_of parts t.op).from))
unfolding after_step
after-source parts n state t holds runs =
    let op = op_of parts t.op in
    let drawn = drawn_of parts state t in
    let held = held_of state op.from in
    let sound = runs.sound in
    let within : op.from < length state = (let count = holds.count in let place = sound.from_place in omega arith) in
    let is = moved-source state op.from op.to drawn within (places_apart parts op sound) in
    let left = sum-rest_of held drawn (drawn-crudes parts state t) (λ c. drawn-within parts state t c runs) in
    let volume = drawn-volume parts state t runs in
    let same = ap sum is in
    (ap length is ∙ length-rest_of held drawn ∙ holds.crudes op.from sound.from_place, omega arith)

after-target : (parts : Parts) (n : ℕ) (state : List (List ℕ)) (t : Timed) → HoldsWithin parts n state → RunsSoundly parts state t →
    (length (held_of (after_step parts state t) (op_of parts t.op).to) ≡ crude_count_of parts) ×
    (sum (held_of (after_step parts state t) (op_of parts t.op).to) ≡ sum (held_of state (op_of parts t.op).to) + t.volume)
unfolding after_step
after-target parts n state t holds runs =
    let op = op_of parts t.op in
    let drawn = drawn_of parts state t in
    let held = held_of state op.to in
    let sound = runs.sound in
    let within : op.to < length state = (let count = holds.count in let place = sound.to_place in omega arith) in
    let is = moved-target state op.from op.to drawn within (places_apart parts op sound) in
    let crudes : length drawn ≡ length held = drawn-crudes parts state t ∙ holds.crudes op.from sound.from_place ∙ sym (holds.crudes op.to sound.to_place) in
    let mixed = sum-mix_of held drawn crudes in
    let volume = drawn-volume parts state t runs in
    let same = ap sum is in
    (ap length is ∙ length-mix_of held drawn ∙ holds.crudes op.to sound.to_place, omega arith)

pub after-other : (parts : Parts) (state : List (List ℕ)) (t : Timed) (p : ℕ) → p ≢ (op_of parts t.op).from → p ≢ (op_of parts t.op).to →
    held_of (after_step parts state t) p ≡ held_of state p
unfolding after_step
after-other parts state t p not_source not_target = moved-other state (op_of parts t.op).from (op_of parts t.op).to p (drawn_of parts state t) not_source
    not_target

-- of one place after the operation
record HoldsAt (parts : Parts) (n : ℕ) (state : List (List ℕ)) (p : ℕ) : Type 0 where
  crudes : length (held_of state p) ≡ crude_count_of parts
  tank : is_unit (place_of parts p).kind ≡ false → sum (held_of state p) ≤ 10000000
  any : sum (held_of state p) ≤ 10000000 * (n + 1)

target-tank : (parts : Parts) (state : List (List ℕ)) (t : Timed) → SoundPlant parts → RunsSoundly parts state t →
    is_unit (place_of parts (op_of parts t.op).to).kind ≡ false → sum (held_of state (op_of parts t.op).to) + t.volume ≤ 10000000
target-tank parts state t plant runs not_unit =
    let levels : (place_of parts (op_of parts t.op).to).max ≤ 10000000 = (plant.each_place (op_of parts t.op).to runs.sound.to_place).levels.to_high in
    elim runs.room [ inl unit ↦ cc | inr room ↦ omega arith ]

holds_at-after : (parts : Parts) (n : ℕ) (state : List (List ℕ)) (t : Timed) (p : ℕ) → SoundPlant parts → HoldsWithin parts n state → RunsSoundly parts state t
    → p < place_count_of parts → HoldsAt parts (n + 1) (after_step parts state t) p
holds_at-after parts n state t p plant holds runs within =
    let op = op_of parts t.op in
    let most = runs.most in
    let before = holds.all p within in
    elim (cases_eq p op.from) [
      | inl is ↦
          let after = after-source parts n state t holds runs in
          let source = holds.tanks op.from runs.sound.from_place (source_is_no_unit parts op runs.sound) in
          let at : HoldsAt parts (n + 1) (after_step parts state t) op.from = record { crudes = after.0; tank = λ not_unit. omega arith; any = omega arith } in
          subst (λ (q : ℕ). HoldsAt parts (n + 1) (after_step parts state t) q) (sym is) at
      | inr not_source ↦ elim (cases_eq p op.to) [
        | inl is ↦
            let after = after-target parts n state t holds runs in
            let target = holds.all op.to runs.sound.to_place in
            let at : HoldsAt parts (n + 1) (after_step parts state t) op.to =
            record { crudes = after.0; tank = λ not_unit. (let tank = target-tank parts state t plant runs not_unit in omega arith); any = omega arith } in
            subst (λ (q : ℕ). HoldsAt parts (n + 1) (after_step parts state t) q) (sym is) at
        | inr not_target ↦
            let same = after-other parts state t p not_source not_target in
            let total = ap sum same in
            record {
              crudes = ap length same ∙ holds.crudes p within;
              tank = λ not_unit. (let tank = holds.tanks p within not_unit in omega arith);
              any = omega arith;
            }
      ]
    ]

pub holds_within-after : (parts : Parts) (n : ℕ) (state : List (List ℕ)) (t : Timed) → SoundPlant parts → HoldsWithin parts n state → RunsSoundly parts state t
    → HoldsWithin parts (n + 1) (after_step parts state t)
unfolding after_step
holds_within-after parts n state t plant holds runs = record {
  count = length-moved state (op_of parts t.op).from (op_of parts t.op).to (drawn_of parts state t) ∙ holds.count;
  crudes = λ p within. (holds_at-after parts n state t p plant holds runs within).crudes;
  tanks = λ p within not_unit. (holds_at-after parts n state t p plant holds runs within).tank not_unit;
  all = λ p within. (holds_at-after parts n state t p plant holds runs within).any;
}

-- ---- all operations

pub state_after_push : (parts : Parts) (steps : List Timed) (t : Timed) → state_after parts (steps ++ t ∷ []) ≡ after_step parts (state_after parts steps) t
unfolding state_after
state_after_push parts steps t = fold_push (after_step parts) (initial_state parts) steps t

pub holds_within-accepted : (parts : Parts) (order : Order) (steps : List Timed) → SoundPlant parts → CanRun parts order steps →
    HoldsWithin parts (length steps) (state_after parts steps)
unfolding state_after
holds_within-accepted parts order steps plant accepted =
    along_accepted parts order (λ (done : List Timed). HoldsWithin parts (length done) (state_after parts done))
    (holds_within-first parts plant)
    (λ before t so_far holds none.
    let runs = runs_soundly parts order before t (length before + 1) plant none in
    let after = holds_within-after parts (length before) (state_after parts before) t plant holds runs in
    let one = length_push before t in
    subst (λ (n : ℕ). HoldsWithin parts n (state_after parts (before ++ t ∷ []))) (sym one)
    (subst (λ (state : List (List ℕ)). HoldsWithin parts (length before + 1) state) (sym (state_after_push parts before t)) after))
    steps accepted

-- the source of an operation holds little enough to draw from
pub source-within : (parts : Parts) (n v : ℕ) (state : List (List ℕ)) → SoundOp parts (op_of parts v) → HoldsWithin parts n state →
    (length (held_of state (op_of parts v).from) ≡ crude_count_of parts) × (sum (held_of state (op_of parts v).from) ≤ 10000000)
source-within parts n v state sound holds =
    (holds.crudes (op_of parts v).from sound.from_place, holds.tanks (op_of parts v).from sound.from_place (source_is_no_unit parts (op_of parts v) sound))
