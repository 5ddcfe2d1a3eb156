-- What holds of the entries of parts in which nothing is wrong, in the whole numbers that they are given in.
use Rattle.std.specs.Prelude.{◌≡◌, ℕ, ◌+◌, ◌<◌, ◌≤◌, true, ℤ, pos, neg_ℤ, ◌≤ℤ◌, ◌<ℤ◌, List, length, slice_index_or}
use Rattle.limits.specs.declared.TheConstants.{MOST_CRUDES, MOST_HORIZON, MOST_MARGIN, MOST_OPERATIONS, MOST_PROPERTIES, MOST_PROPERTY, MOST_RATE, MOST_SLOTS, MOST_TANKS, MOST_UNITS, MOST_VESSELS, MOST_VOLUME, MOST_BERTHS, MOST_DEMURRAGE}
use Rattle.plant_model.specs.declared.parts.Pair.{Pair}
use Rattle.plant_model.specs.declared.parts.CrudePart.{CrudePart}
use Rattle.plant_model.specs.declared.parts.VesselPart.{VesselPart}
use Rattle.plant_model.specs.declared.parts.TankPart.{TankPart}
use Rattle.plant_model.specs.declared.parts.UnitPart.{UnitPart}
use Rattle.plant_model.specs.declared.parts.OperationPart.{OperationPart}
use Rattle.plant_model.specs.declared.parts.Parts.{Parts}
use Rattle.plant_model.specs.declared.place_part.PlacePart.{PlacePart}
use Rattle.plant_model.specs.declared.place_part.PlacePart.TheVariants.{Vessel, Storage, Charging, Unit as DistillationUnit}
use Rattle.plant_model.specs.Parts.{kind_named, arrival_named}
use Rattle.plant_model.specs.Faults.{total_of, is_route, limit_count}

-- a number from low to high
pub record IsWithin (low high z : ℤ) : Type 0 where
  pub from_low : low ≤ℤ z
  pub to_high : z ≤ℤ high

-- a range from low to high at most
pub record IsPairWithin (low high : ℤ) (pair : Pair) : Type 0 where
  pub from_low : low ≤ℤ pair.lo
  pub in_order : pair.lo ≤ℤ pair.hi
  pub to_high : pair.hi ≤ℤ high

-- the least and the greatest level of a tank
abbrev pub levels_of : TankPart → Pair
levels_of tank = record { lo = tank.min; hi = tank.max }

-- so many numbers, each from 0 to high
pub record AreWithin (count : ℕ) (high : ℤ) (numbers : List ℤ) : Type 0 where
  pub all_there : length numbers ≡ count
  pub each_within : (i : ℕ) → i < count → IsWithin (pos 0) high (slice_index_or numbers i (pos 0))

-- a crude with a value for each property
pub record SoundCrude (parts : Parts) (crude : CrudePart) : Type 0 where
  pub margin : IsWithin (neg_ℤ (pos MOST_MARGIN)) (pos MOST_MARGIN) crude.margin
  pub properties : AreWithin (length parts.properties) (pos MOST_PROPERTY) crude.properties

-- a vessel that comes within the horizon to a berth, with an amount of each crude
pub record SoundVessel (parts : Parts) (vessel : VesselPart) : Type 0 where
  pub arrival : IsWithin (pos 0) parts.horizon vessel.arrival
  pub amounts : AreWithin (length parts.crudes) (pos MOST_VOLUME) vessel.amounts
  pub total : total_of vessel.amounts ≤ℤ pos MOST_VOLUME
  pub berth : IsWithin (pos 1) (pos MOST_BERTHS) vessel.berth
  pub demurrage : IsWithin (pos 0) (pos MOST_DEMURRAGE) vessel.demurrage

-- a tank whose first level lies within its levels
pub record SoundTank (parts : Parts) (tank : TankPart) : Type 0 where
  pub levels : IsPairWithin (pos 0) (pos MOST_VOLUME) (levels_of tank)
  pub amounts : AreWithin (length parts.crudes) (pos MOST_VOLUME) tank.amounts
  pub total : IsWithin tank.min tank.max (total_of tank.amounts)

-- an operation on a route of the plant
pub record SoundOperation (parts : Parts) (operation : OperationPart) : Type 0 where
  pub route : is_route (kind_named parts operation.from) (kind_named parts operation.to) ≡ true
  pub rate : IsPairWithin (pos 0) (pos MOST_RATE) operation.rate
  pub volume : IsPairWithin (pos 1) (pos MOST_VOLUME) operation.volume
  pub window : IsPairWithin (pos 0) parts.horizon operation.window
  pub not_empty : operation.window.lo <ℤ operation.window.hi
  pub after_arrival : arrival_named parts operation.from ≤ℤ operation.window.lo
  pub limit_count : length operation.limits ≡ limit_count (length parts.properties) (kind_named parts operation.from)
  pub limits : (k : ℕ) → k < length operation.limits
      → IsPairWithin (pos 0) (pos MOST_PROPERTY) (slice_index_or operation.limits k (record { lo = pos 0; hi = pos 0 }))

-- the sections are small
pub record FewEntries (parts : Parts) : Type 0 where
  pub some_crude : 0 < length parts.crudes
  pub crudes : length parts.crudes ≤ MOST_CRUDES
  pub properties : length parts.properties ≤ MOST_PROPERTIES
  pub vessels : length parts.vessels ≤ MOST_VESSELS
  pub tanks : length parts.storage + length parts.charging ≤ MOST_TANKS
  pub units : length parts.units ≤ MOST_UNITS
  pub operations : length parts.operations ≤ MOST_OPERATIONS

-- of the entry of a place
abbrev pub SoundPart : Parts → PlacePart → Type 0
SoundPart parts (Vessel vessel) = SoundVessel parts vessel.now × IsWithin (pos 0) (pos MOST_HORIZON) vessel.now.arrival
SoundPart parts (Storage tank) = SoundTank parts tank.now
SoundPart parts (Charging tank) = SoundTank parts tank.now × IsPairWithin (pos 0) (pos MOST_VOLUME) tank.now.demand
SoundPart parts (DistillationUnit part) = IsPairWithin (pos 0) (pos MOST_SLOTS) part.now.charges

-- all of it, entry by entry
pub record SoundParts (parts : Parts) : Type 0 where
  pub horizon : IsWithin (pos 1) (pos MOST_HORIZON) parts.horizon
  pub few : FewEntries parts
  pub each_crude : (c : ℕ) (d : CrudePart) → c < length parts.crudes
      → SoundCrude parts (slice_index_or parts.crudes c d)
  pub each_vessel : (i : ℕ) (d : VesselPart) → i < length parts.vessels
      → SoundVessel parts (slice_index_or parts.vessels i d)
  pub each_storage : (i : ℕ) (d : TankPart) → i < length parts.storage
      → SoundTank parts (slice_index_or parts.storage i d)
  pub each_charging : (i : ℕ) (d : TankPart) → i < length parts.charging
      → SoundTank parts (slice_index_or parts.charging i d)
  pub each_demand : (i : ℕ) (d : TankPart) → i < length parts.charging
      → IsPairWithin (pos 0) (pos MOST_VOLUME) (slice_index_or parts.charging i d).demand
  pub each_unit : (i : ℕ) (d : UnitPart) → i < length parts.units
      → IsPairWithin (pos 0) (pos MOST_SLOTS) (slice_index_or parts.units i d).charges
  pub each_operation : (v : ℕ) (d : OperationPart) → v < length parts.operations
      → SoundOperation parts (slice_index_or parts.operations v d)
