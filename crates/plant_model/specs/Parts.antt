-- What is read of the parts of a plant, in natural numbers where a sound plant has nothing below 0.
-- Crudes, properties, places and operations are numbered from 0; what lies past the end reads as nothing.
use Rattle.std.specs.Prelude.{nat_lt, if◌then◌else◌, ℕ, ◌+◌, ℤ, pos, negsuc, false, List, [], ◌++◌, map, fold, max, length, Option, slice_get, slice_index, slice_index_or}
use Rattle.std.specs.List.{position_or_len}
use Rattle.std.specs.Str.{bytes_eq}
use Rattle.plant_model.specs.declared.parts.Pair.{Pair}
use Rattle.plant_model.specs.declared.parts.CrudePart.{CrudePart}
use Rattle.plant_model.specs.declared.parts.VesselPart.{VesselPart}
use Rattle.plant_model.specs.declared.parts.TankPart.{TankPart}
use Rattle.plant_model.specs.declared.parts.UnitPart.{UnitPart}
use Rattle.plant_model.specs.declared.parts.OperationPart.{OperationPart}
use Rattle.plant_model.specs.declared.parts.Parts.{Parts}
use Rattle.plant_model.specs.declared.details.PlaceInfo.{PlaceInfo}
use Rattle.plant_model.specs.declared.details.PlaceKind.{PlaceKind}
use Rattle.plant_model.specs.declared.details.PlaceKind.TheVariants.{Vessel, Storage, Charging, Unit as DistillationUnit}
use Rattle.plant_model.specs.declared.details.Op.{Op}
use Rattle.plant_model.specs.declared.details.OpKind.{OpKind}
use Rattle.plant_model.specs.declared.details.OpKind.TheVariants.{Unload, Transfer, Charge}

-- the number, or 0 where it is below
abbrev pub natural : ℤ → ℕ
natural (pos n) = n
natural (negsuc n) = 0

-- both ends of a range
abbrev pub range_of : Pair → ℕ × ℕ
range_of pair = (natural pair.lo, natural pair.hi)

-- in minutes
unfoldable pub horizon_of : Parts → ℕ
horizon_of parts = natural parts.horizon

-- how many crudes there are
unfoldable pub crude_count_of : Parts → ℕ
crude_count_of parts = length parts.crudes

-- how many properties a crude has
unfoldable pub property_count_of : Parts → ℕ
property_count_of parts = length parts.properties

-- how many operations there are
unfoldable pub op_count_of : Parts → ℕ
op_count_of parts = length parts.operations

-- the names of the crudes, in order
abbrev pub crude_names_of : Parts → List (List ℕ)
crude_names_of parts = map (λ (crude : CrudePart). crude.name) parts.crudes

-- the name of crude c
unfoldable pub crude_name_of : Parts → ℕ → List ℕ
crude_name_of parts c = slice_index_or (crude_names_of parts) c []

-- the name of property k
unfoldable pub property_name_of : Parts → ℕ → List ℕ
property_name_of parts k = slice_index_or parts.properties k []

-- what each volume unit of the crude earns when it is charged
unfoldable pub margin_of : Parts → ℕ → ℤ
margin_of parts c = slice_index_or (map (λ (crude : CrudePart). crude.margin) parts.crudes) c (pos 0)

-- property k of crude c
unfoldable pub property_of : Parts → ℕ → ℕ → ℕ
property_of parts c k =
    let properties = slice_index_or (map (λ (crude : CrudePart). crude.properties) parts.crudes) c [] in
    natural (slice_index_or properties k (pos 0))

-- ---- places: the vessels, then the storage tanks, the charging tanks and the units

-- a place of the kind, where nothing is said of it
abbrev pub bare_place : PlaceKind → PlaceInfo
bare_place kind = record {
  kind = kind;
  arrival = 0;
  min = 0;
  max = 0;
  demand = (0, 0);
  continuous = false;
  charges = (0, 0);
  berth = 0;
  demurrage = 0;
}

-- of a vessel, its arrival, its berth and what it pays for a minute
abbrev pub vessel_info : VesselPart → PlaceInfo
vessel_info vessel =
    record (bare_place Vessel) {
      arrival = natural vessel.arrival;
      berth = natural vessel.berth;
      demurrage = natural vessel.demurrage;
    }

-- of a storage tank, its levels; its demand is not read
abbrev pub storage_info : TankPart → PlaceInfo
storage_info tank = record (bare_place Storage) { min = natural tank.min; max = natural tank.max }

-- of a charging tank, its levels and its demand
abbrev pub charging_info : TankPart → PlaceInfo
charging_info tank =
    record (bare_place Charging) { min = natural tank.min; max = natural tank.max; demand = range_of tank.demand }

-- of a unit, whether it is continuous and how many charges it takes
abbrev pub unit_info : UnitPart → PlaceInfo
unit_info part = record (bare_place DistillationUnit) { continuous = part.continuous; charges = range_of part.charges }

-- the place past the last
abbrev pub no_place : PlaceInfo
no_place = bare_place Vessel

-- what is said of each place: of the vessels, the storage tanks, the charging tanks, the units
abbrev pub per_place : {X : Type 0} → (VesselPart → X) → (TankPart → X) → (TankPart → X) → (UnitPart → X)
    → Parts → List X
per_place of_vessel of_storage of_charging of_unit parts =
    map of_vessel parts.vessels
    ++ map of_storage parts.storage
    ++ map of_charging parts.charging
    ++ map of_unit parts.units

-- what is said of each place, by number
unfoldable pub places_of : Parts → List PlaceInfo
places_of parts = per_place vessel_info storage_info charging_info unit_info parts

-- the names of the places, by number
unfoldable pub place_names_of : Parts → List (List ℕ)
place_names_of parts =
    per_place (λ vessel. vessel.name) (λ tank. tank.name) (λ tank. tank.name) (λ part. part.name) parts

-- how much of each crude the place is given; a unit has none
unfoldable pub place_amounts_of : Parts → List (List ℤ)
place_amounts_of parts =
    per_place (λ vessel. vessel.amounts) (λ tank. tank.amounts) (λ tank. tank.amounts) (λ part. []) parts

-- how many places there are
unfoldable pub place_count_of : Parts → ℕ
place_count_of parts = length parts.vessels + length parts.storage + length parts.charging + length parts.units

-- what is said of place p
unfoldable pub place_of : Parts → ℕ → PlaceInfo
place_of parts p = slice_index_or (places_of parts) p no_place

-- the name of place p
unfoldable pub place_name_of : Parts → ℕ → List ℕ
place_name_of parts p = slice_index_or (place_names_of parts) p []

-- what the vessel or tank holds at first, crude by crude
unfoldable pub initial_amounts_of : Parts → ℕ → List ℕ
initial_amounts_of parts p = map natural (slice_index_or (place_amounts_of parts) p [])

-- how much of crude c it holds at first
unfoldable pub initial_of : Parts → ℕ → ℕ → ℕ
initial_of parts p c = slice_index (initial_amounts_of parts p) c

-- the number of the first of the names that is this one, or the count of names where none is
abbrev pub position_of : List ℕ → List (List ℕ) → ℕ
position_of name names = position_or_len (λ other. bytes_eq other name) names

-- the first place with the name, or the count of places where there is none
unfoldable pub place_by_name_of : Parts → List ℕ → ℕ
place_by_name_of parts name = position_of name (place_names_of parts)

-- the kind of the place with the name, where there is one
unfoldable pub kind_named : Parts → List ℕ → Option PlaceKind
kind_named parts name =
    slice_get (map (λ (place : PlaceInfo). place.kind) (places_of parts)) (place_by_name_of parts name)

-- from when on the place with the name has crude to give: a vessel's arrival, else 0
unfoldable pub arrival_named : Parts → List ℕ → ℤ
arrival_named parts name =
    slice_index_or (map (λ (vessel : VesselPart). vessel.arrival) parts.vessels) (place_by_name_of parts name) (pos 0)

-- ---- operations

-- what is taken from a vessel is unloaded, from storage transferred, from a charging tank charged
abbrev pub kind_from : PlaceKind → OpKind
kind_from Vessel = Unload
kind_from Storage = Transfer
kind_from Charging = Charge
kind_from DistillationUnit = Charge

-- the operation with its places by number
unfoldable pub resolved : Parts → OperationPart → Op
resolved parts operation =
    let source = place_by_name_of parts operation.from in
    record {
      from = source;
      to = place_by_name_of parts operation.to;
      kind = kind_from (place_of parts source).kind;
      rate = range_of operation.rate;
      volume = range_of operation.volume;
      window = range_of operation.window;
    }

-- the operation past the last
abbrev pub no_op : Op
no_op = record { from = 255; to = 255; kind = Unload; rate = (0, 0); volume = (0, 0); window = (0, 0) }

-- the operations, by number
unfoldable pub ops_of : Parts → List Op
ops_of parts = map (resolved parts) parts.operations

-- operation v
unfoldable pub op_of : Parts → ℕ → Op
op_of parts v = slice_index_or (ops_of parts) v no_op

-- the names of the operations, by number
abbrev pub op_names_of : Parts → List (List ℕ)
op_names_of parts = map (λ (operation : OperationPart). operation.name) parts.operations

-- the name of operation v
unfoldable pub op_name_of : Parts → ℕ → List ℕ
op_name_of parts v = slice_index_or (op_names_of parts) v []

-- what property k of what the charge draws may be
unfoldable pub limit_of : Parts → ℕ → ℕ → ℕ × ℕ
limit_of parts v k =
    let limits = slice_index_or (map (λ (operation : OperationPart). operation.limits) parts.operations) v [] in
    range_of (slice_index_or limits k (record { lo = pos 0; hi = pos 0 }))

-- the greatest upper volume of any operation, or 0 where there is none
abbrev pub greatest_of : List Op → ℕ
greatest_of ops = fold (λ most (op : Op). max most op.volume.1) 0 ops

-- the greatest volume that any operation may have
unfoldable pub greatest_volume_of : Parts → ℕ
greatest_volume_of parts = greatest_of (ops_of parts)

-- the operation with the name, or 255 where there is none
unfoldable pub op_by_name_of : Parts → List ℕ → ℕ
op_by_name_of parts name =
    let found = position_of name (op_names_of parts) in
    if nat_lt found (op_count_of parts) then found else 255

-- ---- what a plant is seen as

-- a tank that nothing has to be charged from
abbrev pub without_demand : TankPart → TankPart
without_demand tank = record tank { demand = record { lo = pos 0; hi = pos 0 } }

-- the parts, where no storage tank has a demand
unfoldable pub seen_parts : Parts → Parts
seen_parts parts = record parts { storage = map without_demand parts.storage }
