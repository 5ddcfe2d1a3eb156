-- What holds of a plant in which nothing is wrong, in the words of its readers.
use Rattle.std.specs.Prelude.{◌≡◌, ◌⊎◌, ℕ, ◌<◌, ◌≤◌, pos, neg_ℤ, ◌≤ℤ◌, IsTrue, List, length, sum, ⊤}
use Rattle.limits.specs.declared.TheConstants.{MOST_CRUDES, MOST_HORIZON, MOST_MARGIN, MOST_OPERATIONS, MOST_PLACES, MOST_PROPERTIES, MOST_PROPERTY, MOST_RATE, MOST_SLOTS, MOST_VOLUME, MOST_BERTHS, MOST_DEMURRAGE}
use Rattle.line_text.specs.Name.{is_name}
use Rattle.plant_model.specs.declared.parts.Parts.{Parts}
use Rattle.plant_model.specs.declared.details.PlaceInfo.{PlaceInfo}
use Rattle.plant_model.specs.declared.details.PlaceKind.{PlaceKind}
use Rattle.plant_model.specs.declared.details.PlaceKind.TheVariants.{Vessel, Storage, Charging, Unit as DistillationUnit}
use Rattle.plant_model.specs.declared.details.Op.{Op}
use Rattle.plant_model.specs.declared.details.OpKind.{OpKind}
use Rattle.plant_model.specs.declared.details.OpKind.TheVariants.{Unload, Transfer, Charge}
use Rattle.plant_model.specs.Faults.{IsSound}
use Rattle.plant_model.specs.Parts.{horizon_of, crude_count_of, property_count_of, place_count_of, op_count_of, margin_of, property_of, place_of, initial_amounts_of, op_of, ops_of, limit_of, seen_parts, crude_name_of, property_name_of, place_name_of, op_name_of}

-- a range within low and high
pub record IsRange (low high : ℕ) (range : ℕ × ℕ) : Type 0 where
  pub from_low : low ≤ range.0
  pub in_order : range.0 ≤ range.1
  pub to_high : range.1 ≤ high

-- a vessel and a tank hold crude, a unit does not
abbrev pub HoldsCrude : PlaceKind → Type 0
HoldsCrude Vessel = ⊤
HoldsCrude Storage = ⊤
HoldsCrude Charging = ⊤
HoldsCrude DistillationUnit = ⊥

-- where an operation of the kind comes from, and where it leads
abbrev pub IsRoute : OpKind → PlaceKind → PlaceKind → Type 0
IsRoute Unload from to = (from ≡ Vessel) × (to ≡ Storage)
IsRoute Transfer from to = (from ≡ Storage) × (to ≡ Charging)
IsRoute Charge from to = (from ≡ Charging) × (to ≡ DistillationUnit)

-- the numbers of a place, which are 0 where its kind has none
pub record SoundPlace (parts : Parts) (place : PlaceInfo) : Type 0 where
  pub arrival : place.arrival ≤ horizon_of parts
  pub levels : IsRange 0 MOST_VOLUME (place.min, place.max)
  pub demand : IsRange 0 MOST_VOLUME place.demand
  pub charges : IsRange 0 MOST_SLOTS place.charges
  pub berth : place.berth ≤ MOST_BERTHS
  pub berthed : (place.kind ≡ Vessel) → 1 ≤ place.berth
  pub demurrage : place.demurrage ≤ MOST_DEMURRAGE

-- what a vessel or tank holds at first, crude by crude
pub record SoundAmounts (parts : Parts) (p : ℕ) : Type 0 where
  pub each_crude : length (initial_amounts_of parts p) ≡ crude_count_of parts
  pub total : sum (initial_amounts_of parts p) ≤ MOST_VOLUME
  pub levels : (place_of parts p).kind ≡ Vessel
      ⊎ ((place_of parts p).min ≤ sum (initial_amounts_of parts p))
      × (sum (initial_amounts_of parts p) ≤ (place_of parts p).max)

-- an operation with its places by number
pub record SoundOp (parts : Parts) (op : Op) : Type 0 where
  pub from_place : op.from < place_count_of parts
  pub to_place : op.to < place_count_of parts
  pub route : IsRoute op.kind (place_of parts op.from).kind (place_of parts op.to).kind
  pub rate : IsRange 0 MOST_RATE op.rate
  pub volume : IsRange 1 MOST_VOLUME op.volume
  pub window : op.window.0 < op.window.1
  pub within_horizon : op.window.1 ≤ horizon_of parts
  pub after_arrival : (place_of parts op.from).arrival ≤ op.window.0

-- each name has the form of names, and no two are the same
pub record SoundNames (count : ℕ) (name_of : ℕ → List ℕ) : Type 0 where
  pub form : (i : ℕ) → i < count → IsTrue (is_name (name_of i))
  pub distinct : (i j : ℕ) → i < count → j < count → name_of i ≡ name_of j → i ≡ j

-- all of it
pub record SoundPlant (parts : Parts) : Type 0 where
  pub horizon : (1 ≤ horizon_of parts) × (horizon_of parts ≤ MOST_HORIZON)
  pub crudes : (1 ≤ crude_count_of parts) × (crude_count_of parts ≤ MOST_CRUDES)
  pub properties : property_count_of parts ≤ MOST_PROPERTIES
  pub places : place_count_of parts ≤ MOST_PLACES
  pub ops : op_count_of parts ≤ MOST_OPERATIONS
  pub each_margin : (c : ℕ) → c < crude_count_of parts
      → (neg_ℤ (pos MOST_MARGIN) ≤ℤ margin_of parts c) × (margin_of parts c ≤ℤ pos MOST_MARGIN)
  pub each_property : (c k : ℕ) → c < crude_count_of parts → k < property_count_of parts
      → property_of parts c k ≤ MOST_PROPERTY
  pub each_place : (p : ℕ) → p < place_count_of parts → SoundPlace parts (place_of parts p)
  pub each_amounts : (p : ℕ) → p < place_count_of parts → HoldsCrude (place_of parts p).kind → SoundAmounts parts p
  pub each_op : (v : ℕ) → v < op_count_of parts → SoundOp parts (op_of parts v)
  pub each_limit : (v k : ℕ) → v < op_count_of parts → (op_of parts v).kind ≡ Charge → k < property_count_of parts
      → IsRange 0 MOST_PROPERTY (limit_of parts v k)
  pub property_names : SoundNames (property_count_of parts) (property_name_of parts)
  pub crude_names : SoundNames (crude_count_of parts) (crude_name_of parts)
  pub place_names : SoundNames (place_count_of parts) (place_name_of parts)
  pub op_names : SoundNames (op_count_of parts) (op_name_of parts)

-- what a plant keeps: its parts, in which nothing is wrong, and the table of its operations
pub record IsPlant (parts : Parts) (ops : List Op) : Type 0 where
  pub sound : IsSound parts
  pub seen : seen_parts parts ≡ parts
  pub table : ops ≡ ops_of parts
