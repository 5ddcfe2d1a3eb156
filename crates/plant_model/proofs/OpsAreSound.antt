-- The operations of parts without a fault, with their places by number.
use Rattle.std.proofs.Common.{◌≡◌, ◌∙◌, sym, ap, refl, ℕ, zero, suc, ◌<◌, ◌≤◌, true, Option, Some, List, [], ◌∷◌, ◌++◌, map, length, get_or, arith}
use Rattle.std.proofs.lemmas.List.{get_or-map, length-map}
use Rattle.std.proofs.lemmas.Option.{slice_get_within, get_or_from_slice_get}
use Rattle.std.proofs.lemmas.Int.{ints}
use Rattle.std.specs.Prelude.{ℤ, pos, negsuc, ◌≤ℤ◌, ◌<ℤ◌}
use Rattle.limits.specs.declared.TheConstants.{MOST_PLACES, MOST_RATE, MOST_VOLUME}
use Rattle.plant_model.specs.declared.parts.Pair.{Pair}
use Rattle.plant_model.specs.declared.parts.VesselPart.{VesselPart}
use Rattle.plant_model.specs.declared.parts.OperationPart.{OperationPart}
use Rattle.plant_model.specs.declared.parts.Parts.{Parts}
use Rattle.plant_model.specs.declared.details.PlaceInfo.{PlaceInfo}
use Rattle.plant_model.specs.declared.details.PlaceKind.{PlaceKind}
use Rattle.plant_model.specs.declared.details.PlaceKind.TheVariants.{Vessel, Storage, Charging, Unit as DistillationUnit}
use Rattle.plant_model.specs.Parts.{natural, horizon_of, places_of, place_of, no_place, place_count_of, place_by_name_of, kind_named, arrival_named, kind_from, resolved, ops_of, op_of, no_op, op_count_of, property_count_of, vessel_info, storage_info, charging_info, unit_info}
use Rattle.plant_model.specs.declared.details.Op.{Op}
use Rattle.plant_model.specs.declared.details.OpKind.TheVariants.{Charge}
use Rattle.plant_model.specs.Faults.{is_route, limit_count}
use Rattle.plant_model.specs.Sound.{IsRoute, SoundOp}
use Rattle.plant_model.specs.inside.SoundParts.{FewEntries, SoundOperation, SoundParts}
use Rattle.plant_model.proofs.PlaceLists.{in_a_row, length-per_place, natural_le, natural_range}

natural_lt : (a b : ℤ) → pos 0 ≤ℤ a → a <ℤ b → natural a < natural b
natural_lt (pos a) (pos b) from_zero lt = omega (arith, ints)
natural_lt (pos a) (negsuc b) from_zero lt = absurd (omega (arith, ints))
natural_lt (negsuc a) b from_zero lt = absurd (omega (arith, ints))

-- a route leads from one known place to another
route_is : (from to : Option PlaceKind) → is_route from to ≡ true → (k l : PlaceKind) × (from ≡ Some k) × (to ≡ Some l) × IsRoute (kind_from k) k l
route_is (Some Vessel) (Some Storage) h = (Vessel, Storage, refl, refl, (refl, refl))
route_is (Some Storage) (Some Charging) h = (Storage, Charging, refl, refl, (refl, refl))
route_is (Some Charging) (Some DistillationUnit) h = (Charging, DistillationUnit, refl, refl, (refl, refl))
route_is _ _ h = cc

-- a place that is known by name
known_place : (parts : Parts) (name : List ℕ) (kind : PlaceKind) → kind_named parts name ≡ Some kind
    → (place_by_name_of parts name < place_count_of parts) × ((place_of parts (place_by_name_of parts name)).kind ≡ kind)
unfolding kind_named place_of places_of
known_place parts name kind known =
    let number = place_by_name_of parts name in
    let kinds = map (λ (place : PlaceInfo). place.kind) (places_of parts) in
    let within : number < length kinds = slice_get_within kinds number kind known in
    let count = length-map (places_of parts) (λ (place : PlaceInfo). place.kind) in
    let all_places = length-per_place vessel_info storage_info charging_info unit_info parts in
    let inside : number < length (places_of parts) = omega arith in (
      omega arith,
      sym (get_or-map (λ (place : PlaceInfo). place.kind) (places_of parts) number no_place kind inside)
          ∙ get_or_from_slice_get kinds number kind kind known,
    )

-- no entry but a vessel arrives
no_arrival : {X : Type 0} (info : X → PlaceInfo) → ((x : X) → (info x).arrival ≡ 0) → (xs : List X) (rest : List PlaceInfo)
    → ((n : ℕ) → (get_or rest n no_place).arrival ≡ 0) → (n : ℕ) → (get_or (map info xs ++ rest) n no_place).arrival ≡ 0
no_arrival info each [] rest later n = later n
no_arrival info each (x ∷ xs) rest later zero = each x
no_arrival info each (x ∷ xs) rest later (suc n) = no_arrival info each xs rest later n

none_arrives : {X : Type 0} (info : X → PlaceInfo) → ((x : X) → (info x).arrival ≡ 0) → (xs : List X) (n : ℕ) → (get_or (map info xs) n no_place).arrival ≡ 0
none_arrives info each [] n = refl
none_arrives info each (x ∷ xs) zero = each x
none_arrives info each (x ∷ xs) (suc n) = none_arrives info each xs n

vessels_arrive : (vessels : List VesselPart) (rest : List PlaceInfo) → ((n : ℕ) → (get_or rest n no_place).arrival ≡ 0) → (n : ℕ)
    → (get_or (map vessel_info vessels ++ rest) n no_place).arrival ≡ natural (get_or (map (λ (vessel : VesselPart). vessel.arrival) vessels) n (pos 0))
vessels_arrive [] rest later n = later n
vessels_arrive (x ∷ xs) rest later zero = refl
vessels_arrive (x ∷ xs) rest later (suc n) = vessels_arrive xs rest later n

pub place_arrival : (parts : Parts) (p : ℕ)
    → (place_of parts p).arrival ≡ natural (get_or (map (λ (vessel : VesselPart). vessel.arrival) parts.vessels) p (pos 0))
unfolding place_of places_of
place_arrival parts p =
    ap (λ row. (get_or row p no_place).arrival) (in_a_row (map vessel_info parts.vessels) _ _ _)
    ∙ vessels_arrive parts.vessels _
    (no_arrival storage_info (λ _. refl) parts.storage _
    (no_arrival charging_info (λ _. refl) parts.charging _ (none_arrives unit_info (λ _. refl) parts.units)))
    p

pub sound_resolved : (parts : Parts) (operation : OperationPart) → SoundOperation parts operation → SoundOp parts (resolved parts operation)
unfolding resolved arrival_named horizon_of
sound_resolved parts operation sound =
    let route = route_is _ _ sound.route in
    let source = known_place parts operation.from route.0 route.2 in
    let destination = known_place parts operation.to route.1 route.3 in
    record {
      from_place = source.0;
      to_place = destination.0;
      route = rw (source.1, destination.1) route.4;
      rate = natural_range 0 MOST_RATE operation.rate sound.rate;
      volume = natural_range 1 MOST_VOLUME operation.volume sound.volume;
      window = natural_lt operation.window.lo operation.window.hi sound.window.from_low sound.not_empty;
      within_horizon = natural_le operation.window.hi parts.horizon sound.window.to_high;
      after_arrival = rw (place_arrival parts (place_by_name_of parts operation.from)) (natural_le _ operation.window.lo sound.after_arrival);
    }

-- an operation of nothing, which stands past the end of a list
abbrev nothing : Pair
nothing = record { lo = pos 0; hi = pos 0 }

abbrev pub no_operation : OperationPart
no_operation = record { name = []; from = []; to = []; rate = nothing; volume = nothing; window = nothing; limits = [] }

pub length-ops_of : (parts : Parts) → length (ops_of parts) ≡ op_count_of parts
unfolding ops_of op_count_of
length-ops_of parts = length-map parts.operations (resolved parts)

pub op_of-resolved : (parts : Parts) (v : ℕ) (d : OperationPart) → v < op_count_of parts → op_of parts v ≡ resolved parts (get_or parts.operations v d)
unfolding op_of ops_of op_count_of
op_of-resolved parts v d within = get_or-map (resolved parts) parts.operations v d no_op within

pub sound_op : (parts : Parts) → SoundParts parts → (v : ℕ) → v < op_count_of parts → SoundOp parts (op_of parts v)
unfolding op_count_of
sound_op parts sound v within =
    rw (op_of-resolved parts v no_operation within)
    (sound_resolved parts (get_or parts.operations v no_operation) (sound.each_operation v no_operation within))

-- what is charged comes from a charging tank
charging_source : (k l : PlaceKind) → IsRoute (kind_from k) k l → kind_from k ≡ Charge → k ≡ Charging
charging_source Vessel l route charge = cc
charging_source Storage l route charge = cc
charging_source Charging l route charge = refl
charging_source DistillationUnit l route charge = route.0

-- a charge has a limit for each property
pub charge_limits : (parts : Parts) (v : ℕ) (operation : OperationPart) → v < op_count_of parts → operation ≡ get_or parts.operations v operation
    → SoundOperation parts operation → (op_of parts v).kind ≡ Charge → length operation.limits ≡ property_count_of parts
unfolding resolved property_count_of
charge_limits parts v operation within is sound charge =
    let route = route_is _ _ sound.route in
    let source = known_place parts operation.from route.0 route.2 in
    let here : op_of parts v ≡ resolved parts operation = op_of-resolved parts v operation within ∙ ap (resolved parts) (sym is) in
    let charged : kind_from route.0 ≡ Charge = ap kind_from (sym source.1) ∙ sym (ap (λ (op : Op). op.kind) here) ∙ charge in
    let from_charging : kind_named parts operation.from ≡ Some Charging = route.2 ∙ ap Some (charging_source route.0 route.1 route.4 charged) in
    sound.limit_count ∙ ap (limit_count (length parts.properties)) from_charging

-- both ends of an operation are places, of which there are few
pub ends_within : (parts : Parts) (operation : OperationPart) → SoundOperation parts operation
    → (place_by_name_of parts operation.from < place_count_of parts) × (place_by_name_of parts operation.to < place_count_of parts)
ends_within parts operation sound =
    let route = route_is _ _ sound.route in
    ((known_place parts operation.from route.0 route.2).0, (known_place parts operation.to route.1 route.3).0)

pub few_places : (parts : Parts) → FewEntries parts → place_count_of parts ≤ MOST_PLACES
unfolding place_count_of
few_places parts few = omega arith
