-- What holds of parts without a fault, in the words of a plant's readers.
use Rattle.std.proofs.Common.{◌≡◌, ◌∙◌, sym, ap, refl, ℕ, suc, ◌+◌, ◌-◌, ◌<◌, ◌≤◌, true, List, [], ◌∷◌, ◌++◌, map, length, get_or, arith, subst, inl, inr}
use Rattle.std.proofs.lemmas.List.{get_or-map, length-map, get_or_append_left, get_or-append-add, get_or_default}
use Rattle.std.proofs.lemmas.Bool.{cases_lt}
use Rattle.std.proofs.lemmas.Int.{ints}
use Rattle.std.specs.Prelude.{ℤ, pos, negsuc, ◌+ℤ◌, ◌≤ℤ◌, sum, fold}
use Rattle.limits.specs.declared.TheConstants.{MOST_HORIZON, MOST_PROPERTY, MOST_VOLUME}
use Rattle.line_text.specs.Name.{is_name}
use Rattle.item_lists.specs.Faults.{each_from}
use Rattle.item_lists.proofs.FaultLaws.{no_faults, holds_of_nil, each_of_nil}
use Rattle.plant_model.specs.declared.parts.Pair.{Pair}
use Rattle.plant_model.specs.declared.parts.CrudePart.{CrudePart}
use Rattle.plant_model.specs.declared.parts.VesselPart.{VesselPart}
use Rattle.plant_model.specs.declared.parts.TankPart.{TankPart}
use Rattle.plant_model.specs.declared.parts.UnitPart.{UnitPart}
use Rattle.plant_model.specs.declared.parts.OperationPart.{OperationPart}
use Rattle.plant_model.specs.declared.parts.Parts.{Parts}
use Rattle.plant_model.specs.declared.place.Section.{Section}
use Rattle.plant_model.specs.declared.place.Section.TheVariants.{Properties, Crudes, Vessels, Storage, Charging, Units, Operations}
use Rattle.plant_model.specs.declared.details.PlaceInfo.{PlaceInfo}
use Rattle.plant_model.specs.declared.details.OpKind.TheVariants.{Charge}
use Rattle.plant_model.specs.declared.details.PlaceKind.TheVariants.{Vessel as VesselKind, Storage as StorageKind, Charging as ChargingKind, Unit as UnitKind}
use Rattle.plant_model.specs.Parts.{natural, horizon_of, crude_count_of, property_count_of, place_count_of, op_count_of, margin_of, property_of, per_place, places_of, place_of, no_place, place_names_of, place_name_of, place_amounts_of, initial_amounts_of, op_of, limit_of, crude_names_of, crude_name_of, property_name_of, op_names_of, op_name_of, position_of, vessel_info, storage_info, charging_info, unit_info}
use Rattle.plant_model.specs.Faults.{total_of, all_name_faults, all_repeat_faults, name_faults, names_beside, names_before, repeat_faults, IsSound}
use Rattle.plant_model.specs.Sound.{IsRange, HoldsCrude, SoundPlace, SoundAmounts, SoundNames, SoundPlant}
use Rattle.plant_model.specs.inside.SoundParts.{AreWithin, SoundVessel, SoundTank, SoundOperation, SoundParts}
use Rattle.plant_model.proofs.NoFaults.{NoneStand, none_stand, sound_parts}
use Rattle.plant_model.proofs.PlaceLists.{in_a_row, natural_le, natural_range, sound_vessel_place, sound_storage_place, sound_charging_place, sound_unit_place}
use Rattle.plant_model.proofs.OpsAreSound.{sound_op, charge_limits, no_operation}
use Rattle.plant_model.proofs.FaultTests.{equal_is}

-- entries past the end of their lists
abbrev no_crude : CrudePart
no_crude = record { name = []; margin = pos 0; properties = [] }

abbrev no_pair : Pair
no_pair = record { lo = pos 0; hi = pos 0 }

abbrev no_vessel : VesselPart
no_vessel = record { name = []; arrival = pos 0; amounts = []; berth = pos 0; demurrage = pos 0 }

abbrev no_tank : TankPart
no_tank = record { name = []; min = pos 0; max = pos 0; amounts = []; demand = no_pair }

abbrev no_unit : UnitPart
no_unit = record { name = []; continuous = true; charges = no_pair }

-- ---- a place is a vessel, a storage tank, a charging tank or a unit

abbrev storage_start : Parts → ℕ
storage_start parts = length parts.vessels

abbrev charging_start : Parts → ℕ
charging_start parts = length parts.vessels + length parts.storage

abbrev unit_start : Parts → ℕ
unit_start parts = length parts.vessels + length parts.storage + length parts.charging

at_number : (P : ℕ → Type 0) (start p : ℕ) → start ≤ p → P (start + (p - start)) → P p
at_number P start p le here = let same : start + (p - start) ≡ p = omega arith in subst P same here

by_section : (parts : Parts) (P : ℕ → Type 0) → ((i : ℕ) → i < length parts.vessels → P i)
    → ((i : ℕ) → i < length parts.storage → P (storage_start parts + i)) → ((i : ℕ) → i < length parts.charging → P (charging_start parts + i))
    → ((i : ℕ) → i < length parts.units → P (unit_start parts + i)) → (p : ℕ) → p < place_count_of parts → P p
unfolding place_count_of
by_section parts P vessels storage charging units p within =
    elim (cases_lt p (storage_start parts)) [
      | inl lt ↦ vessels p lt
      | inr past_vessels ↦ elim (cases_lt p (charging_start parts)) [
        | inl lt ↦ at_number P (storage_start parts) p past_vessels (storage (p - storage_start parts) (omega arith))
        | inr past_storage ↦ elim (cases_lt p (unit_start parts)) [
          | inl lt ↦ at_number P (charging_start parts) p past_storage (charging (p - charging_start parts) (omega arith))
          | inr past_charging ↦ at_number P (unit_start parts) p past_charging (units (p - unit_start parts) (omega arith))
        ]
      ]
    ]

-- the front of joined lists, and what follows it
front : {X Y : Type 0} (f : X → Y) (xs : List X) (rest : List Y) (i : ℕ) (d : X) (e : Y) → i < length xs → get_or (map f xs ++ rest) i e ≡ f (get_or xs i d)
front f xs rest i d e within =
    let count = length-map xs f in
    get_or_append_left (map f xs) rest e i (omega arith) ∙ get_or-map f xs i d e within

past : {X Y : Type 0} (f : X → Y) (xs : List X) (rest : List Y) (i : ℕ) (e : Y) → get_or (map f xs ++ rest) (length xs + i) e ≡ get_or rest i e
past f xs rest i e = ap (λ n. get_or (map f xs ++ rest) (n + i) e) (sym (length-map xs f)) ∙ get_or-append-add (map f xs) rest i e

per_place-vessel : {X : Type 0} (of_vessel : VesselPart → X) (of_storage of_charging : TankPart → X) (of_unit : UnitPart → X) (parts : Parts) (i : ℕ)
    (e : X) → i < length parts.vessels → get_or (per_place of_vessel of_storage of_charging of_unit parts) i e ≡ of_vessel (get_or parts.vessels i no_vessel)
per_place-vessel of_vessel of_storage of_charging of_unit parts i e within =
    ap (λ row. get_or row i e) (in_a_row (map of_vessel parts.vessels) _ _ _) ∙ front of_vessel parts.vessels _ i no_vessel e within

per_place-storage : {X : Type 0} (of_vessel : VesselPart → X) (of_storage of_charging : TankPart → X) (of_unit : UnitPart → X) (parts : Parts) (i : ℕ)
    (e : X) → i < length parts.storage
    → get_or (per_place of_vessel of_storage of_charging of_unit parts) (storage_start parts + i) e ≡ of_storage (get_or parts.storage i no_tank)
per_place-storage of_vessel of_storage of_charging of_unit parts i e within =
    ap (λ row. get_or row (storage_start parts + i) e) (in_a_row (map of_vessel parts.vessels) _ _ _)
    ∙ past of_vessel parts.vessels _ i e
    ∙ front of_storage parts.storage _ i no_tank e within

per_place-charging : {X : Type 0} (of_vessel : VesselPart → X) (of_storage of_charging : TankPart → X) (of_unit : UnitPart → X) (parts : Parts)
    (i : ℕ) (e : X) → i < length parts.charging
    → get_or (per_place of_vessel of_storage of_charging of_unit parts) (charging_start parts + i) e ≡ of_charging (get_or parts.charging i no_tank)
per_place-charging of_vessel of_storage of_charging of_unit parts i e within =
    let number : charging_start parts + i ≡ length parts.vessels + (length parts.storage + i) = omega arith in
    ap (λ n. get_or (per_place of_vessel of_storage of_charging of_unit parts) n e) number
    ∙ ap (λ row. get_or row (length parts.vessels + (length parts.storage + i)) e) (in_a_row (map of_vessel parts.vessels) _ _ _)
    ∙ past of_vessel parts.vessels _ (length parts.storage + i) e
    ∙ past of_storage parts.storage _ i e
    ∙ front of_charging parts.charging _ i no_tank e within

per_place-unit : {X : Type 0} (of_vessel : VesselPart → X) (of_storage of_charging : TankPart → X) (of_unit : UnitPart → X) (parts : Parts) (i : ℕ)
    (e : X) → i < length parts.units
    → get_or (per_place of_vessel of_storage of_charging of_unit parts) (unit_start parts + i) e ≡ of_unit (get_or parts.units i no_unit)
per_place-unit of_vessel of_storage of_charging of_unit parts i e within =
    let number : unit_start parts + i ≡ length parts.vessels + (length parts.storage + (length parts.charging + i)) = omega arith in
    ap (λ n. get_or (per_place of_vessel of_storage of_charging of_unit parts) n e) number
    ∙ ap (λ row. get_or row (length parts.vessels + (length parts.storage + (length parts.charging + i))) e) (in_a_row (map of_vessel parts.vessels) _ _ _)
    ∙ past of_vessel parts.vessels _ (length parts.storage + (length parts.charging + i)) e
    ∙ past of_storage parts.storage _ (length parts.charging + i) e
    ∙ past of_charging parts.charging _ i e
    ∙ get_or-map of_unit parts.units i no_unit e within

-- ---- what a place holds

-- a total of numbers none of which is below 0
total_from : (a : ℕ) (amounts : List ℤ) → ((i : ℕ) → i < length amounts → pos 0 ≤ℤ get_or amounts i (pos 0))
    → fold ◌+ℤ◌ (pos a) amounts ≡ pos (fold (λ s x. s + x) a (map natural amounts))
total_from a [] each = refl
total_from a (pos n ∷ amounts) each = total_from (a + n) amounts (λ i within. each (suc i) (omega arith))
total_from a (negsuc n ∷ amounts) each = let below : pos 0 ≤ℤ negsuc n = each 0 (omega arith) in absurd (omega (arith, ints))

amounts_total : (count : ℕ) (amounts : List ℤ) → AreWithin count (pos MOST_VOLUME) amounts → total_of amounts ≡ pos (sum (map natural amounts))
amounts_total count amounts sound =
    let all_there = sound.all_there in
    total_from 0 amounts (λ i within. (sound.each_within i (omega arith)).from_low)

-- the places of each section
vessel_at : (parts : Parts) (i : ℕ) → i < length parts.vessels
    → (place_of parts i ≡ vessel_info (get_or parts.vessels i no_vessel)) ×
    (initial_amounts_of parts i ≡ map natural (get_or parts.vessels i no_vessel).amounts)
unfolding place_of places_of initial_amounts_of place_amounts_of
vessel_at parts i within = (
  per_place-vessel vessel_info storage_info charging_info unit_info parts i no_place within,
  ap (map natural) (per_place-vessel (λ vessel. vessel.amounts) (λ tank. tank.amounts) (λ tank. tank.amounts) (λ part. []) parts i [] within),
)

storage_at : (parts : Parts) (i : ℕ) → i < length parts.storage
    → (place_of parts (storage_start parts + i) ≡ storage_info (get_or parts.storage i no_tank)) ×
    (initial_amounts_of parts (storage_start parts + i) ≡ map natural (get_or parts.storage i no_tank).amounts)
unfolding place_of places_of initial_amounts_of place_amounts_of
storage_at parts i within = (
  per_place-storage vessel_info storage_info charging_info unit_info parts i no_place within,
  ap (map natural) (per_place-storage (λ vessel. vessel.amounts) (λ tank. tank.amounts) (λ tank. tank.amounts) (λ part. []) parts i [] within),
)

charging_at : (parts : Parts) (i : ℕ) → i < length parts.charging
    → (place_of parts (charging_start parts + i) ≡ charging_info (get_or parts.charging i no_tank)) ×
    (initial_amounts_of parts (charging_start parts + i) ≡ map natural (get_or parts.charging i no_tank).amounts)
unfolding place_of places_of initial_amounts_of place_amounts_of
charging_at parts i within = (
  per_place-charging vessel_info storage_info charging_info unit_info parts i no_place within,
  ap (map natural) (per_place-charging (λ vessel. vessel.amounts) (λ tank. tank.amounts) (λ tank. tank.amounts) (λ part. []) parts i [] within),
)

unit_at : (parts : Parts) (i : ℕ) → i < length parts.units → place_of parts (unit_start parts + i) ≡ unit_info (get_or parts.units i no_unit)
unfolding place_of places_of
unit_at parts i within = per_place-unit vessel_info storage_info charging_info unit_info parts i no_place within

-- vessels come first
pub vessels_come_first : (parts : Parts) (p : ℕ) → p < place_count_of parts → (place_of parts p).kind ≡ VesselKind → p < length parts.vessels
vessels_come_first parts =
    let kind_of = λ (info : PlaceInfo). info.kind in
    by_section parts (λ p. (place_of parts p).kind ≡ VesselKind → p < length parts.vessels)
    (λ i within is. within)
    (λ i within is. (let same : StorageKind ≡ VesselKind = sym (ap kind_of (storage_at parts i within).0) ∙ is in cc))
    (λ i within is. (let same : ChargingKind ≡ VesselKind = sym (ap kind_of (charging_at parts i within).0) ∙ is in cc))
    (λ i within is. (let same : UnitKind ≡ VesselKind = sym (ap kind_of (unit_at parts i within)) ∙ is in cc))

vessel_name_at : (parts : Parts) (i : ℕ) → i < length parts.vessels → place_name_of parts i ≡ (get_or parts.vessels i no_vessel).name
unfolding place_name_of place_names_of
vessel_name_at parts i within = per_place-vessel (λ vessel. vessel.name) (λ tank. tank.name) (λ tank. tank.name) (λ part. part.name) parts i [] within

storage_name_at : (parts : Parts) (i : ℕ) → i < length parts.storage → place_name_of parts (storage_start parts + i) ≡ (get_or parts.storage i no_tank).name
unfolding place_name_of place_names_of
storage_name_at parts i within = per_place-storage (λ vessel. vessel.name) (λ tank. tank.name) (λ tank. tank.name) (λ part. part.name) parts i [] within

charging_name_at : (parts : Parts) (i : ℕ) → i < length parts.charging → place_name_of parts (charging_start parts + i) ≡ (get_or parts.charging i no_tank).name
unfolding place_name_of place_names_of
charging_name_at parts i within = per_place-charging (λ vessel. vessel.name) (λ tank. tank.name) (λ tank. tank.name) (λ part. part.name) parts i [] within

unit_name_at : (parts : Parts) (i : ℕ) → i < length parts.units → place_name_of parts (unit_start parts + i) ≡ (get_or parts.units i no_unit).name
unfolding place_name_of place_names_of
unit_name_at parts i within = per_place-unit (λ vessel. vessel.name) (λ tank. tank.name) (λ tank. tank.name) (λ part. part.name) parts i [] within

vessel_amounts : (parts : Parts) (p : ℕ) (vessel : VesselPart) → SoundVessel parts vessel → place_of parts p ≡ vessel_info vessel
    → initial_amounts_of parts p ≡ map natural vessel.amounts → SoundAmounts parts p
unfolding crude_count_of
vessel_amounts parts p vessel sound place amounts =
    let total = amounts_total (length parts.crudes) vessel.amounts sound.amounts in
    record {
      each_crude = ap length amounts ∙ length-map vessel.amounts natural ∙ sound.amounts.all_there;
      total = let low : pos (sum (map natural vessel.amounts)) ≤ℤ pos MOST_VOLUME = rw (← total) sound.total in rw amounts (omega (arith, ints));
      levels = inl (ap (λ (info : PlaceInfo). info.kind) place);
    }

tank_amounts : (parts : Parts) (p : ℕ) (tank : TankPart) → SoundTank parts tank → (place_of parts p).min ≡ natural tank.min
    → (place_of parts p).max ≡ natural tank.max → initial_amounts_of parts p ≡ map natural tank.amounts → SoundAmounts parts p
unfolding crude_count_of
tank_amounts parts p tank sound min max amounts =
    let total = amounts_total (length parts.crudes) tank.amounts sound.amounts in
    let low : tank.min ≤ℤ pos (sum (map natural tank.amounts)) = rw (← total) sound.total.from_low in
    let high : pos (sum (map natural tank.amounts)) ≤ℤ tank.max = rw (← total) sound.total.to_high in
    let most : pos (sum (map natural tank.amounts)) ≤ℤ pos MOST_VOLUME = omega (arith, ints) in
    record {
      each_crude = ap length amounts ∙ length-map tank.amounts natural ∙ sound.amounts.all_there;
      total = rw amounts (omega (arith, ints));
      levels = inr (rw (min, amounts) (natural_le tank.min _ low), rw (max, amounts) (natural_le _ tank.max high));
    }

sound_places : (parts : Parts) → SoundParts parts → (p : ℕ) → p < place_count_of parts → SoundPlace parts (place_of parts p)
sound_places parts sound =
    by_section parts (λ p. SoundPlace parts (place_of parts p))
    (λ i within. rw (vessel_at parts i within).0 (sound_vessel_place parts (get_or parts.vessels i no_vessel) (sound.each_vessel i no_vessel within)))
    (λ i within. rw (storage_at parts i within).0 (sound_storage_place parts (get_or parts.storage i no_tank) (sound.each_storage i no_tank within)))
    (λ i within. rw (charging_at parts i within).0
    (sound_charging_place parts (get_or parts.charging i no_tank) (sound.each_charging i no_tank within) (sound.each_demand i no_tank within)))
    (λ i within. rw (unit_at parts i within) (sound_unit_place parts (get_or parts.units i no_unit) (sound.each_unit i no_unit within)))

sound_amounts : (parts : Parts) → SoundParts parts → (p : ℕ) → p < place_count_of parts → HoldsCrude (place_of parts p).kind → SoundAmounts parts p
sound_amounts parts sound =
    by_section parts (λ p. HoldsCrude (place_of parts p).kind → SoundAmounts parts p)
    (λ i within holds. let here = vessel_at parts i within in vessel_amounts parts i _ (sound.each_vessel i no_vessel within) here.0 here.1)
    (λ i within holds. let here = storage_at parts i within in
    tank_amounts parts _ _ (sound.each_storage i no_tank within) (ap (λ (info : PlaceInfo). info.min) here.0)
    (ap (λ (info : PlaceInfo). info.max) here.0) here.1)
    (λ i within holds. let here = charging_at parts i within in
    tank_amounts parts _ _ (sound.each_charging i no_tank within) (ap (λ (info : PlaceInfo). info.min) here.0)
    (ap (λ (info : PlaceInfo). info.max) here.0) here.1)
    (λ i within holds. let Holds : PlaceInfo → Type 0 = λ info. HoldsCrude info.kind in absurd (subst Holds (unit_at parts i within) holds))

-- ---- names

-- names of which each is the first of its kind
names_are : (count : ℕ) (names : List (List ℕ)) (name_of : ℕ → List ℕ) → ((i : ℕ) → i < count → is_name (name_of i) ≡ true)
    → ((i : ℕ) → i < count → position_of (name_of i) names ≡ i) → SoundNames count name_of
names_are count names name_of form first = record {
  form = form;
  distinct = λ i j i_within j_within same. sym (first i i_within) ∙ ap (λ name. position_of name names) same ∙ first j j_within;
}

-- entry by entry: the names of a section have the form, and each is the first among all the names
section_form : {X : Type 0} (section : Section) (name : X → List ℕ) (xs : List X) (d : X)
    → each_from (λ index (x : X). name_faults section index (name x)) 1 xs ≡ [] → (i : ℕ) → i < length xs → is_name (name (get_or xs i d)) ≡ true
section_form section name xs d none i within = holds_of_nil _ _ (each_of_nil (λ index (x : _). name_faults section index (name x)) 1 i xs d none within)

section_first : {X : Type 0} (parts : Parts) (section : Section) (name : X → List ℕ) (xs : List X) (d : X)
    → each_from (λ index (x : X). repeat_faults parts section index (name x)) 1 xs ≡ [] → (i : ℕ) → i < length xs
    → position_of (name (get_or xs i d)) (names_beside parts section) ≡ names_before parts section + i
section_first parts section name xs d none i within =
    let number : names_before parts section + (1 + i) - 1 ≡ names_before parts section + i = omega arith in
    equal_is _ _ (holds_of_nil _ _ (each_of_nil (λ index (x : _). repeat_faults parts section index (name x)) 1 i xs d none within)) ∙ number

crude_names_are : (parts : Parts) → NoneStand parts → SoundNames (crude_count_of parts) (crude_name_of parts)
unfolding all_name_faults all_repeat_faults crude_count_of crude_name_of
crude_names_are parts none =
    let no_names : all_name_faults parts ≡ [] = none.names in
    let no_repeats : all_repeat_faults parts ≡ [] = none.repeats in
    let name_at : (i : ℕ) → i < length parts.crudes → crude_name_of parts i ≡ (get_or parts.crudes i no_crude).name =
    λ i within. get_or-map (λ (crude : CrudePart). crude.name) parts.crudes i no_crude [] within in
    names_are (length parts.crudes) (crude_names_of parts) (crude_name_of parts)
    (λ i within. ap is_name (name_at i within)
    ∙ section_form Crudes (λ (crude : CrudePart). crude.name) parts.crudes no_crude (grind (arith, no_faults)) i within)
    (λ i within. ap (λ name. position_of name (crude_names_of parts)) (name_at i within)
    ∙ section_first parts Crudes (λ (crude : CrudePart). crude.name) parts.crudes no_crude (grind (arith, no_faults)) i within ∙ omega arith)

op_names_are : (parts : Parts) → NoneStand parts → SoundNames (op_count_of parts) (op_name_of parts)
unfolding all_name_faults all_repeat_faults op_count_of op_name_of
op_names_are parts none =
    let no_names : all_name_faults parts ≡ [] = none.names in
    let no_repeats : all_repeat_faults parts ≡ [] = none.repeats in
    let name_at : (i : ℕ) → i < length parts.operations → op_name_of parts i ≡ (get_or parts.operations i no_operation).name =
    λ i within. get_or-map (λ (operation : OperationPart). operation.name) parts.operations i no_operation [] within in
    names_are (length parts.operations) (op_names_of parts) (op_name_of parts)
    (λ i within. ap is_name (name_at i within)
    ∙ section_form Operations (λ (operation : OperationPart). operation.name) parts.operations no_operation (grind (arith, no_faults)) i within)
    (λ i within. ap (λ name. position_of name (op_names_of parts)) (name_at i within)
    ∙ section_first parts Operations (λ (operation : OperationPart). operation.name) parts.operations no_operation
    (grind (arith, no_faults)) i within ∙ omega arith)

property_names_are : (parts : Parts) → NoneStand parts → SoundNames (property_count_of parts) (property_name_of parts)
unfolding all_name_faults all_repeat_faults property_count_of property_name_of
property_names_are parts none =
    let no_names : all_name_faults parts ≡ [] = none.names in
    let no_repeats : all_repeat_faults parts ≡ [] = none.repeats in
    names_are (length parts.properties) parts.properties (property_name_of parts)
    (section_form Properties (λ name. name) parts.properties [] (grind (arith, no_faults)))
    (λ i within. section_first parts Properties (λ name. name) parts.properties [] (grind (arith, no_faults)) i within ∙ omega arith)

place_names_are : (parts : Parts) → NoneStand parts → SoundNames (place_count_of parts) (place_name_of parts)
unfolding all_name_faults all_repeat_faults place_name_of
place_names_are parts none =
    let no_names : all_name_faults parts ≡ [] = none.names in
    let no_repeats : all_repeat_faults parts ≡ [] = none.repeats in
    let names = place_names_of parts in
    names_are (place_count_of parts) names (place_name_of parts)
    (by_section parts (λ p. is_name (place_name_of parts p) ≡ true)
    (λ i within. ap is_name (vessel_name_at parts i within)
    ∙ section_form Vessels (λ (vessel : VesselPart). vessel.name) parts.vessels no_vessel (grind (arith, no_faults)) i within)
    (λ i within. ap is_name (storage_name_at parts i within)
    ∙ section_form Storage (λ (tank : TankPart). tank.name) parts.storage no_tank (grind (arith, no_faults)) i within)
    (λ i within. ap is_name (charging_name_at parts i within)
    ∙ section_form Charging (λ (tank : TankPart). tank.name) parts.charging no_tank (grind (arith, no_faults)) i within)
    (λ i within. ap is_name (unit_name_at parts i within)
    ∙ section_form Units (λ (part : UnitPart). part.name) parts.units no_unit (grind (arith, no_faults)) i within))
    (by_section parts (λ p. position_of (place_name_of parts p) names ≡ p)
    (λ i within. ap (λ name. position_of name names) (vessel_name_at parts i within)
    ∙ section_first parts Vessels (λ (vessel : VesselPart). vessel.name) parts.vessels no_vessel (grind (arith, no_faults)) i within ∙ omega arith)
    (λ i within. ap (λ name. position_of name names) (storage_name_at parts i within)
    ∙ section_first parts Storage (λ (tank : TankPart). tank.name) parts.storage no_tank (grind (arith, no_faults)) i within)
    (λ i within. ap (λ name. position_of name names) (charging_name_at parts i within)
    ∙ section_first parts Charging (λ (tank : TankPart). tank.name) parts.charging no_tank (grind (arith, no_faults)) i within)
    (λ i within. ap (λ name. position_of name names) (unit_name_at parts i within)
    ∙ section_first parts Units (λ (part : UnitPart). part.name) parts.units no_unit (grind (arith, no_faults)) i within))

-- ---- limits

sound_limit : (parts : Parts) → SoundParts parts → (v k : ℕ) → v < op_count_of parts → (op_of parts v).kind ≡ Charge → k < property_count_of parts
    → IsRange 0 MOST_PROPERTY (limit_of parts v k)
unfolding op_count_of limit_of
sound_limit parts sound v k v_within charge k_within =
    let operation = get_or parts.operations v no_operation in
    let this : SoundOperation parts operation = sound.each_operation v no_operation v_within in
    let same : operation ≡ get_or parts.operations v operation = get_or_default parts.operations v no_operation operation v_within in
    let count = charge_limits parts v operation v_within same this charge in
    let here = get_or-map (λ (operation : OperationPart). operation.limits) parts.operations v no_operation [] v_within in
    rw here (natural_range 0 MOST_PROPERTY _ (this.limits k (omega arith)))

-- ---- all of it

pub sound_plant : (parts : Parts) → IsSound parts → SoundPlant parts
unfolding horizon_of crude_count_of property_count_of place_count_of op_count_of margin_of property_of limit_of
sound_plant parts is_sound =
    let none = none_stand parts is_sound in
    let sound = sound_parts parts is_sound in
    let few = sound.few in
    let horizon = sound.horizon in
    record {
      horizon = (natural_le (pos 1) parts.horizon sound.horizon.from_low, natural_le parts.horizon (pos MOST_HORIZON) sound.horizon.to_high);
      crudes = (omega arith, omega arith);
      properties = omega arith;
      places = omega arith;
      ops = omega arith;
      each_margin = λ c within.
          let crude = sound.each_crude c no_crude within in
          let here = get_or-map (λ (crude : CrudePart). crude.margin) parts.crudes c no_crude (pos 0) within in
          (rw here crude.margin.from_low, rw here crude.margin.to_high);
      each_property = λ c k c_within k_within.
          let crude = sound.each_crude c no_crude c_within in
          let here = get_or-map (λ (crude : CrudePart). crude.properties) parts.crudes c no_crude [] c_within in
          rw here (natural_le _ (pos MOST_PROPERTY) (crude.properties.each_within k k_within).to_high);
      each_place = sound_places parts sound;
      each_amounts = sound_amounts parts sound;
      each_op = sound_op parts sound;
      each_limit = λ v k v_within charge k_within. sound_limit parts sound v k v_within charge k_within;
      property_names = property_names_are parts none;
      crude_names = crude_names_are parts none;
      place_names = place_names_are parts none;
      op_names = op_names_are parts none;
    }
