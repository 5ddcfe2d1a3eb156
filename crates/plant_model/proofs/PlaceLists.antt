-- What the lists that go over all places have at the number of a place.
use Rattle.std.specs.Prelude.{ℤ, pos, negsuc, ◌≤ℤ◌}
use Rattle.std.proofs.Common.{refl, Some, None, ◌≡◌, ◌∙◌, sym, ap, ℕ, ◌-◌, ◌<◌, ◌≤◌, List, [], ◌++◌, map, length, get_or, arith, length-append, append_assoc, subst}
use Rattle.std.proofs.lemmas.List.{get_or-map, get_or_append_left, get_or-append_right, length-map}
use Rattle.std.proofs.lemmas.Int.{ints}
use Rattle.std.proofs.lemmas.Option.{slice_get-get_or, slice_get_past}
use Rattle.std.specs.List.{slice_get}
use Rattle.limits.specs.declared.TheConstants.{MOST_BERTHS, MOST_DEMURRAGE, MOST_SLOTS, MOST_VOLUME}
use Rattle.plant_model.specs.declared.details.PlaceInfo.{PlaceInfo}
use Rattle.plant_model.specs.declared.parts.Pair.{Pair}
use Rattle.plant_model.specs.declared.parts.VesselPart.{VesselPart}
use Rattle.plant_model.specs.declared.parts.TankPart.{TankPart}
use Rattle.plant_model.specs.declared.parts.UnitPart.{UnitPart}
use Rattle.plant_model.specs.declared.parts.Parts.{Parts}
use Rattle.plant_model.specs.declared.place_part.PlacePart.{PlacePart}
use Rattle.plant_model.specs.declared.place_part.PlacePart.TheVariants.{Vessel, Storage, Charging, Unit as DistillationUnit}
use Rattle.plant_model.specs.Parts.{natural, range_of, horizon_of, per_place, places_of, place_of, no_place, place_names_of, place_name_of, place_amounts_of, initial_amounts_of, place_count_of, vessel_info, storage_info, charging_info, unit_info}
use Rattle.plant_model.specs.inside.PlaceParts.{IsPartAt, kind_of_part, info_of_part, name_of_part, amounts_of_part}
use Rattle.plant_model.specs.Sound.{IsRange, SoundPlace}
use Rattle.plant_model.specs.inside.SoundParts.{IsPairWithin, SoundVessel, SoundTank, SoundPart, SoundParts}

-- what is said of the entry
abbrev pub of_part : {X : Type 0} → (VesselPart → X) → (TankPart → X) → (TankPart → X) → (UnitPart → X) → PlacePart → X
of_part of_vessel of_storage of_charging of_unit (Vessel vessel) = of_vessel vessel.now
of_part of_vessel of_storage of_charging of_unit (Storage tank) = of_storage tank.now
of_part of_vessel of_storage of_charging of_unit (Charging tank) = of_charging tank.now
of_part of_vessel of_storage of_charging of_unit (DistillationUnit part) = of_unit part.now

-- the front of joined lists, and what follows it
pub in_front : {X Y : Type 0} (f : X → Y) (xs : List X) (rest : List Y) (n : ℕ) (x : X) (e : Y) → n < length xs → x ≡ get_or xs n x
    → get_or (map f xs ++ rest) n e ≡ f x
in_front f xs rest n x e within is =
    let count = length-map xs f in
    get_or_append_left (map f xs) rest e n (omega arith) ∙ get_or-map f xs n x e within ∙ ap f (sym is)

pub alone : {X Y : Type 0} (f : X → Y) (xs : List X) (n : ℕ) (x : X) (e : Y) → n < length xs → x ≡ get_or xs n x → get_or (map f xs) n e ≡ f x
alone f xs n x e within is = get_or-map f xs n x e within ∙ ap f (sym is)

pub after : {X Y : Type 0} (f : X → Y) (xs : List X) (rest : List Y) (n : ℕ) (e : Y) → length xs ≤ n
    → get_or (map f xs ++ rest) n e ≡ get_or rest (n - length xs) e
after f xs rest n e past = get_or-append_right (map f xs) rest (length xs) n e (length-map xs f) past

pub length-per_place : {X : Type 0} (of_vessel : VesselPart → X) (of_storage of_charging : TankPart → X) (of_unit : UnitPart → X) (parts : Parts)
    → length (per_place of_vessel of_storage of_charging of_unit parts) ≡ place_count_of parts
unfolding place_count_of
length-per_place of_vessel of_storage of_charging of_unit parts = simp (length-append, length-map)

pub length-places_of : (parts : Parts) → length (places_of parts) ≡ place_count_of parts
unfolding places_of
length-places_of parts = length-per_place _ _ _ _ parts

-- vessels are places
pub vessels-few : (parts : Parts) → length parts.vessels ≤ place_count_of parts
unfolding place_count_of
vessels-few parts = omega arith

-- one section after another
pub in_a_row : {X : Type 0} (a b c d : List X) → a ++ b ++ c ++ d ≡ a ++ (b ++ (c ++ d))
in_a_row a b c d = simp append_assoc

pub per_place-at : {X : Type 0} (of_vessel : VesselPart → X) (of_storage of_charging : TankPart → X) (of_unit : UnitPart → X) (parts : Parts) (p : ℕ)
    (part : PlacePart) (e : X) → IsPartAt parts p part
    → get_or (per_place of_vessel of_storage of_charging of_unit parts) p e ≡ of_part of_vessel of_storage of_charging of_unit part
per_place-at of_vessel of_storage of_charging of_unit parts p (Vessel vessel) e at =
    ap (λ row. get_or row p e) (in_a_row (map of_vessel parts.vessels) _ _ _)
    ∙ in_front of_vessel parts.vessels _ p vessel.now e at.0 at.1
per_place-at of_vessel of_storage of_charging of_unit parts p (Storage tank) e at =
    ap (λ row. get_or row p e) (in_a_row (map of_vessel parts.vessels) _ _ _)
    ∙ after of_vessel parts.vessels _ p e at.0
    ∙ in_front of_storage parts.storage _ (p - length parts.vessels) tank.now e at.1 at.2
per_place-at of_vessel of_storage of_charging of_unit parts p (Charging tank) e at =
    ap (λ row. get_or row p e) (in_a_row (map of_vessel parts.vessels) _ _ _)
    ∙ after of_vessel parts.vessels _ p e (omega arith)
    ∙ after of_storage parts.storage _ (p - length parts.vessels) e (omega arith)
    ∙ in_front of_charging parts.charging _ (p - length parts.vessels - length parts.storage) tank.now e at.1 at.2
per_place-at of_vessel of_storage of_charging of_unit parts p (DistillationUnit part) e at =
    ap (λ row. get_or row p e) (in_a_row (map of_vessel parts.vessels) _ _ _)
    ∙ after of_vessel parts.vessels _ p e (omega arith)
    ∙ after of_storage parts.storage _ (p - length parts.vessels) e (omega arith)
    ∙ after of_charging parts.charging _ (p - length parts.vessels - length parts.storage) e (omega arith)
    ∙ alone of_unit parts.units (p - length parts.vessels - length parts.storage - length parts.charging) part.now e at.1 at.2

pub place_of_part : (parts : Parts) (p : ℕ) (part : PlacePart) → IsPartAt parts p part → place_of parts p ≡ info_of_part part
unfolding place_of places_of
place_of_part parts p part at = per_place-at vessel_info storage_info charging_info unit_info parts p part no_place at

pub place_name_of_part : (parts : Parts) (p : ℕ) (part : PlacePart) → IsPartAt parts p part → place_name_of parts p ≡ name_of_part part
unfolding place_name_of place_names_of
place_name_of_part parts p part at = per_place-at (λ vessel. vessel.name) (λ tank. tank.name) (λ tank. tank.name) (λ part. part.name) parts p part [] at

pub initial_amounts_of_part : (parts : Parts) (p : ℕ) (part : PlacePart) → IsPartAt parts p part
    → initial_amounts_of parts p ≡ map natural (amounts_of_part part)
unfolding initial_amounts_of place_amounts_of
initial_amounts_of_part parts p part at =
    ap (map natural) (per_place-at (λ vessel. vessel.amounts) (λ tank. tank.amounts) (λ tank. tank.amounts) (λ part. []) parts p part [] at)

pub natural_le : (a b : ℤ) → a ≤ℤ b → natural a ≤ natural b
natural_le (pos a) (pos b) le = omega (arith, ints)
natural_le (pos a) (negsuc b) le = omega (arith, ints)
natural_le (negsuc a) (pos b) le = omega (arith, ints)
natural_le (negsuc a) (negsuc b) le = omega (arith, ints)

pub natural_range : (low high : ℕ) (pair : Pair) → IsPairWithin (pos low) (pos high) pair → IsRange low high (range_of pair)
natural_range low high pair within = record {
  from_low = natural_le (pos low) pair.lo within.from_low;
  in_order = natural_le pair.lo pair.hi within.in_order;
  to_high = natural_le pair.hi (pos high) within.to_high;
}

-- a range that the place has not
pub nothing : (high : ℕ) → IsRange 0 high (0, 0)
nothing high = record { from_low = omega arith; in_order = omega arith; to_high = omega arith }

pub sound_vessel_place : (parts : Parts) (vessel : VesselPart) → SoundVessel parts vessel → SoundPlace parts (vessel_info vessel)
unfolding horizon_of
sound_vessel_place parts vessel sound = record {
  arrival = natural_le vessel.arrival parts.horizon sound.arrival.to_high;
  levels = nothing MOST_VOLUME;
  demand = nothing MOST_VOLUME;
  charges = nothing MOST_SLOTS;
  berth = natural_le vessel.berth (pos MOST_BERTHS) sound.berth.to_high;
  berthed = λ _. natural_le (pos 1) vessel.berth sound.berth.from_low;
  demurrage = natural_le vessel.demurrage (pos MOST_DEMURRAGE) sound.demurrage.to_high;
}

pub sound_storage_place : (parts : Parts) (tank : TankPart) → SoundTank parts tank → SoundPlace parts (storage_info tank)
sound_storage_place parts tank sound = record {
  arrival = omega arith;
  levels = natural_range 0 MOST_VOLUME _ sound.levels;
  demand = nothing MOST_VOLUME;
  charges = nothing MOST_SLOTS;
  berth = omega arith;
  berthed = λ is. cc;
  demurrage = omega arith;
}

pub sound_charging_place : (parts : Parts) (tank : TankPart) → SoundTank parts tank → IsPairWithin (pos 0) (pos MOST_VOLUME) tank.demand
    → SoundPlace parts (charging_info tank)
sound_charging_place parts tank sound demand = record {
  arrival = omega arith;
  levels = natural_range 0 MOST_VOLUME _ sound.levels;
  demand = natural_range 0 MOST_VOLUME _ demand;
  charges = nothing MOST_SLOTS;
  berth = omega arith;
  berthed = λ is. cc;
  demurrage = omega arith;
}

pub sound_unit_place : (parts : Parts) (part : UnitPart) → IsPairWithin (pos 0) (pos MOST_SLOTS) part.charges → SoundPlace parts (unit_info part)
sound_unit_place parts part sound = record {
  arrival = omega arith;
  levels = nothing MOST_VOLUME;
  demand = nothing MOST_VOLUME;
  charges = natural_range 0 MOST_SLOTS _ sound;
  berth = omega arith;
  berthed = λ is. cc;
  demurrage = omega arith;
}

pub sound_place : (parts : Parts) (part : PlacePart) → SoundPart parts part → SoundPlace parts (info_of_part part)
sound_place parts (Vessel vessel) sound = sound_vessel_place parts vessel.now sound.0
sound_place parts (Storage tank) sound = sound_storage_place parts tank.now sound
sound_place parts (Charging tank) sound = sound_charging_place parts tank.now sound.0 sound.1
sound_place parts (DistillationUnit part) sound = sound_unit_place parts part.now sound

-- the entry of a place is sound as its section is
pub sound_part : (parts : Parts) → SoundParts parts → (p : ℕ) (part : PlacePart) → IsPartAt parts p part → SoundPart parts part
sound_part parts sound p (Vessel vessel) at =
    let Sound : VesselPart → Type 0 = λ entry. SoundVessel parts entry in
    let here : SoundVessel parts vessel.now = subst Sound (sym at.1) (sound.each_vessel p vessel.now at.0) in
    (here, record { from_low = here.arrival.from_low; to_high = omega (arith, ints) })
sound_part parts sound p (Storage tank) at =
    let Sound : TankPart → Type 0 = λ entry. SoundTank parts entry in
    subst Sound (sym at.2) (sound.each_storage (p - length parts.vessels) tank.now at.1)
sound_part parts sound p (Charging tank) at =
    let Sound : TankPart → Type 0 = λ entry. SoundTank parts entry in
    let Demand : TankPart → Type 0 = λ entry. IsPairWithin (pos 0) (pos MOST_VOLUME) entry.demand in
    let i = p - length parts.vessels - length parts.storage in
    (subst Sound (sym at.2) (sound.each_charging i tank.now at.1), subst Demand (sym at.2) (sound.each_demand i tank.now at.1))
sound_part parts sound p (DistillationUnit part) at =
    let Charges : UnitPart → Type 0 = λ entry. IsPairWithin (pos 0) (pos MOST_SLOTS) entry.charges in
    subst Charges (sym at.2) (sound.each_unit (p - length parts.vessels - length parts.storage - length parts.charging) part.now at.1)

pub kind_of_info : (part : PlacePart) → (info_of_part part).kind ≡ kind_of_part part
kind_of_info (Vessel vessel) = refl
kind_of_info (Storage tank) = refl
kind_of_info (Charging tank) = refl
kind_of_info (DistillationUnit part) = refl

-- an entry that stands at a number is one of the places
pub part_within : (parts : Parts) (p : ℕ) (part : PlacePart) → IsPartAt parts p part → p < place_count_of parts
unfolding place_count_of
part_within parts p (Vessel vessel) at = omega arith
part_within parts p (Storage tank) at = omega arith
part_within parts p (Charging tank) at = omega arith
part_within parts p (DistillationUnit part) at = omega arith

-- the kind of the place at a number, where there is one
pub kind_at_part : (parts : Parts) (p : ℕ) (part : PlacePart) → IsPartAt parts p part → p < place_count_of parts
    → slice_get (map (λ (place : PlaceInfo). place.kind) (places_of parts)) p ≡ Some (kind_of_part part)
unfolding place_of places_of
kind_at_part parts p part at within =
    let all_places = length-per_place vessel_info storage_info charging_info unit_info parts in
    let kinds = map (λ (place : PlaceInfo). place.kind) (places_of parts) in
    let count = length-map (places_of parts) (λ (place : PlaceInfo). place.kind) in
    slice_get-get_or kinds p (kind_of_part part) (omega arith)
    ∙ ap Some (get_or-map (λ (place : PlaceInfo). place.kind) (places_of parts) p no_place (kind_of_part part) (omega arith)
    ∙ ap (λ (place : PlaceInfo). place.kind) (place_of_part parts p part at) ∙ kind_of_info part)

pub kind_past : (parts : Parts) (p : ℕ) → place_count_of parts ≤ p → slice_get (map (λ (place : PlaceInfo). place.kind) (places_of parts)) p ≡ None
unfolding places_of
kind_past parts p past =
    let all_places = length-per_place vessel_info storage_info charging_info unit_info parts in
    let count = length-map (places_of parts) (λ (place : PlaceInfo). place.kind) in
    slice_get_past (map (λ (place : PlaceInfo). place.kind) (places_of parts)) p (omega arith)
