-- The entry that a place's number leads to.
use Rattle.std.specs.Prelude.{◌≡◌, ℕ, ◌+◌, ◌-◌, ◌<◌, ◌≤◌, ℤ, List, [], length, slice_index_or}
use Rattle.plant_model.specs.declared.place_part.PlacePart.{PlacePart}
use Rattle.plant_model.specs.declared.place_part.PlacePart.TheVariants.{Vessel, Storage, Charging, Unit as DistillationUnit}
use Rattle.plant_model.specs.declared.details.PlaceInfo.{PlaceInfo}
use Rattle.plant_model.specs.declared.details.PlaceKind.{PlaceKind}
use Rattle.plant_model.specs.declared.details.PlaceKind.TheVariants.{Vessel as VesselKind, Storage as StorageKind, Charging as ChargingKind, Unit as UnitKind}
use Rattle.plant_model.specs.declared.parts.Parts.{Parts}
use Rattle.plant_model.specs.Parts.{vessel_info, storage_info, charging_info, unit_info}

-- the kind of the place
abbrev pub kind_of_part : PlacePart → PlaceKind
kind_of_part (Vessel vessel) = VesselKind
kind_of_part (Storage tank) = StorageKind
kind_of_part (Charging tank) = ChargingKind
kind_of_part (DistillationUnit part) = UnitKind

-- what is said of the place
abbrev pub info_of_part : PlacePart → PlaceInfo
info_of_part (Vessel vessel) = vessel_info vessel.now
info_of_part (Storage tank) = storage_info tank.now
info_of_part (Charging tank) = charging_info tank.now
info_of_part (DistillationUnit part) = unit_info part.now

-- the name of the place
abbrev pub name_of_part : PlacePart → List ℕ
name_of_part (Vessel vessel) = vessel.now.name
name_of_part (Storage tank) = tank.now.name
name_of_part (Charging tank) = tank.now.name
name_of_part (DistillationUnit part) = part.now.name

-- what a vessel or tank holds at first
abbrev pub amounts_of_part : PlacePart → List ℤ
amounts_of_part (Vessel vessel) = vessel.now.amounts
amounts_of_part (Storage tank) = tank.now.amounts
amounts_of_part (Charging tank) = tank.now.amounts
amounts_of_part (DistillationUnit part) = []

-- the entry stands at the number, counted from the first vessel on
abbrev pub IsPartAt : Parts → ℕ → PlacePart → Type 0
IsPartAt parts number (Vessel vessel) =
    (number < length parts.vessels) × (vessel.now ≡ slice_index_or parts.vessels number vessel.now)
IsPartAt parts number (Storage tank) =
    (length parts.vessels ≤ number) × (number - length parts.vessels < length parts.storage)
    × (tank.now ≡ slice_index_or parts.storage (number - length parts.vessels) tank.now)
IsPartAt parts number (Charging tank) =
    (length parts.vessels + length parts.storage ≤ number)
    × (number - length parts.vessels - length parts.storage < length parts.charging)
    × (tank.now ≡ slice_index_or parts.charging (number - length parts.vessels - length parts.storage) tank.now)
IsPartAt parts number (DistillationUnit part) =
    (length parts.vessels + length parts.storage + length parts.charging ≤ number)
    × (number - length parts.vessels - length parts.storage - length parts.charging < length parts.units)
    × (part.now
    ≡ slice_index_or parts.units
    (number - length parts.vessels - length parts.storage - length parts.charging) part.now)
