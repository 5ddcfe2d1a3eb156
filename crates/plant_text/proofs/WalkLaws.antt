-- The walk over the value of a plant finds the parts of the plant.
use Rattle.std.proofs.Common.{◌≡◌, IsTrue, ℕ, ◌^◌, ◌<◌, ℤ, pos, negsuc, List, [], ◌∷◌, map, Option, Some, Result, Ok, refl, sym, lt-ltb}
use Rattle.std.specs.Int.Signed.{mag}
use Rattle.std.specs.List.{AllByRecursion}
use Rattle.serde_json.specs.Data.{Data, string}
use Rattle.serde_json.specs.View.{items_of}
use Rattle.plant_model.specs.declared.parts.Pair.{Pair}
use Rattle.plant_model.specs.declared.parts.Parts.{Parts}
use Rattle.plant_model.specs.declared.parts.CrudePart.{CrudePart}
use Rattle.plant_model.specs.declared.parts.VesselPart.{VesselPart}
use Rattle.plant_model.specs.declared.parts.TankPart.{TankPart}
use Rattle.plant_model.specs.declared.parts.UnitPart.{UnitPart}
use Rattle.plant_model.specs.declared.parts.OperationPart.{OperationPart}
use Rattle.line_text.specs.Name.{is_name}
use Rattle.plant_text.specs.declared.fault.PlantTextFault.{PlantTextFault}
use Rattle.plant_text.specs.declared.kinds.PlantFormat.{PlantFormat}
use Rattle.plant_text.specs.declared.kinds.PlantFormat.TheVariants.{One, Two, Three}
use Rattle.plant_text.specs.Kinds.{whole_number, each_in, whole_numbers, pair, pairs}
use Rattle.plant_text.specs.Walk.{crude_at, property_at, vessel_at, storage_at, charging_at, unit_at, operation_at, entries_from, sections_of, parts_of, next_index}
use Rattle.plant_text.proofs.PlainValues.{sorted, sorted_items}
use Rattle.plant_text.proofs.PlantValues.{whole, list_value, pair_value, crude_value, vessel_value, storage_value, charging_value, unit_value, operation_value, plant_value}

-- a number of less than 2 ^ 63
abbrev pub IsSmall : ℤ → Type 0
IsSmall z = mag z < 2 ^ 63

abbrev pub AreSmall : List ℤ → Type 0
AreSmall numbers = AllByRecursion IsSmall numbers

pub record IsSmallPair (pair : Pair) : Type 0 where
  pub lo : IsSmall pair.lo
  pub hi : IsSmall pair.hi

pub whole_read : (z : ℤ) → IsSmall z → whole_number (whole z) ≡ Some z
whole_read (pos n) h = rw (lt-ltb n (2 ^ 63) h) refl
whole_read (negsuc n) h = refl

each_read : {X : Type 0} (value : X → Data) (kind : Data → Option X) (P : X → Type 0) → ((x : X) → P x → kind (sorted (value x)) ≡ Some x)
    → (xs : List X) → AllByRecursion P xs → each_in kind (sorted_items (items_of (map value xs))) ≡ Some xs
each_read value kind P one [] h = refl
each_read value kind P one (x ∷ xs) h = rw (one x h.0, each_read value kind P one xs h.1) refl

pub numbers_read : (numbers : List ℤ) → AreSmall numbers → whole_numbers (sorted (list_value whole numbers)) ≡ Some numbers
numbers_read numbers h = each_read whole whole_number IsSmall whole_read numbers h

pub pair_read : (p : Pair) → IsSmallPair p → pair (sorted (pair_value p)) ≡ Some p
pair_read p h = rw (whole_read p.lo h.lo, whole_read p.hi h.hi) refl

pub pairs_read : (ps : List Pair) → AllByRecursion IsSmallPair ps → pairs (sorted (list_value pair_value ps)) ≡ Some ps
pairs_read ps h = each_read pair_value pair IsSmallPair pair_read ps h

entries_read : {X : Type 0} (value : X → Data) (entry_at : ℕ → Data → Result X PlantTextFault) (P : X → Type 0)
    → ((index : ℕ) (x : X) → P x → entry_at index (sorted (value x)) ≡ Ok x)
    → (index : ℕ) (xs : List X) → AllByRecursion P xs → entries_from entry_at index (sorted_items (items_of (map value xs))) ≡ Ok xs
unfolding entries_from
entries_read value entry_at P one index [] h = refl
entries_read value entry_at P one index (x ∷ xs) h =
    rw (one index x h.0, entries_read value entry_at P one (next_index index) xs h.1) refl

-- the word has the form of names
abbrev pub IsName : List ℕ → Type 0
IsName word = IsTrue (is_name word)

-- ---- the entries: names and numbers that can be told

pub record FitsCrude (crude : CrudePart) : Type 0 where
  pub name : IsName crude.name
  pub margin : IsSmall crude.margin
  pub properties : AreSmall crude.properties

crude_read : (index : ℕ) (crude : CrudePart) → FitsCrude crude → crude_at index (sorted (crude_value crude)) ≡ Ok crude
unfolding crude_at
crude_read index crude h = rw (whole_read crude.margin h.margin, numbers_read crude.properties h.properties) refl

-- what the format does not tell of a vessel has its one value
abbrev pub Tells : PlantFormat → VesselPart → Type 0
Tells One vessel = (vessel.berth ≡ pos 1) × (vessel.demurrage ≡ pos 0)
Tells Two vessel = vessel.demurrage ≡ pos 0
Tells Three vessel = Unit {0}

pub record FitsVessel (format : PlantFormat) (vessel : VesselPart) : Type 0 where
  pub name : IsName vessel.name
  pub arrival : IsSmall vessel.arrival
  pub amounts : AreSmall vessel.amounts
  pub berth : IsSmall vessel.berth
  pub demurrage : IsSmall vessel.demurrage
  pub told : Tells format vessel

vessel_read : (format : PlantFormat) (index : ℕ) (vessel : VesselPart) → FitsVessel format vessel
    → vessel_at format index (sorted (vessel_value format vessel)) ≡ Ok vessel
unfolding vessel_at
vessel_read One index vessel h =
    rw (whole_read vessel.arrival h.arrival, numbers_read vessel.amounts h.amounts)
    (λ i. Ok (record {
      name = vessel.name;
      arrival = vessel.arrival;
      amounts = vessel.amounts;
      berth = sym h.told.0 i;
      demurrage = sym h.told.1 i;
    }))
vessel_read Two index vessel h =
    rw (whole_read vessel.arrival h.arrival, numbers_read vessel.amounts h.amounts, whole_read vessel.berth h.berth)
    (λ i. Ok (record {
      name = vessel.name;
      arrival = vessel.arrival;
      amounts = vessel.amounts;
      berth = vessel.berth;
      demurrage = sym h.told i;
    }))
vessel_read Three index vessel h =
    rw (
      whole_read vessel.arrival h.arrival,
      numbers_read vessel.amounts h.amounts,
      whole_read vessel.berth h.berth,
      whole_read vessel.demurrage h.demurrage,
    ) refl

pub record FitsTank (tank : TankPart) : Type 0 where
  pub name : IsName tank.name
  pub min : IsSmall tank.min
  pub max : IsSmall tank.max
  pub amounts : AreSmall tank.amounts

pub record FitsStorage (tank : TankPart) : Type 0 where
  pub levels : FitsTank tank
  pub demand : tank.demand ≡ record { lo = pos 0; hi = pos 0 }

storage_read : (index : ℕ) (tank : TankPart) → FitsStorage tank → storage_at index (sorted (storage_value tank)) ≡ Ok tank
unfolding storage_at
storage_read index tank h =
    rw (whole_read tank.min h.levels.min, whole_read tank.max h.levels.max, numbers_read tank.amounts h.levels.amounts)
    (λ i. Ok (record { name = tank.name; min = tank.min; max = tank.max; amounts = tank.amounts; demand = sym h.demand i }))

pub record FitsCharging (tank : TankPart) : Type 0 where
  pub levels : FitsTank tank
  pub demand : IsSmallPair tank.demand

charging_read : (index : ℕ) (tank : TankPart) → FitsCharging tank → charging_at index (sorted (charging_value tank)) ≡ Ok tank
unfolding charging_at
charging_read index tank h =
    rw (whole_read tank.min h.levels.min, whole_read tank.max h.levels.max, numbers_read tank.amounts h.levels.amounts, pair_read tank.demand h.demand) refl

pub record FitsUnit (part : UnitPart) : Type 0 where
  pub name : IsName part.name
  pub charges : IsSmallPair part.charges

unit_read : (index : ℕ) (part : UnitPart) → FitsUnit part → unit_at index (sorted (unit_value part)) ≡ Ok part
unfolding unit_at
unit_read index part h = rw (pair_read part.charges h.charges) refl

pub record FitsOperation (operation : OperationPart) : Type 0 where
  pub name : IsName operation.name
  pub from : IsName operation.from
  pub to : IsName operation.to
  pub rate : IsSmallPair operation.rate
  pub volume : IsSmallPair operation.volume
  pub window : IsSmallPair operation.window
  pub limits : AllByRecursion IsSmallPair operation.limits

operation_read : (index : ℕ) (operation : OperationPart) → FitsOperation operation
    → operation_at index (sorted (operation_value operation)) ≡ Ok operation
unfolding operation_at
operation_read index operation h =
    rw (
      pair_read operation.rate h.rate,
      pair_read operation.volume h.volume,
      pair_read operation.window h.window,
      pairs_read operation.limits h.limits,
    ) refl

property_read : (index : ℕ) (name : List ℕ) → IsName name → property_at index (sorted (string name)) ≡ Ok name
unfolding property_at
property_read index name h = refl

-- ---- the plant

-- all of a plant, told in the format
pub record FitsParts (format : PlantFormat) (parts : Parts) : Type 0 where
  pub horizon : IsSmall parts.horizon
  pub properties : AllByRecursion IsName parts.properties
  pub crudes : AllByRecursion FitsCrude parts.crudes
  pub vessels : AllByRecursion (FitsVessel format) parts.vessels
  pub storage : AllByRecursion FitsStorage parts.storage
  pub charging : AllByRecursion FitsCharging parts.charging
  pub units : AllByRecursion FitsUnit parts.units
  pub operations : AllByRecursion FitsOperation parts.operations

sections_read : (format : PlantFormat) (parts : Parts) → IsSmall parts.horizon
    → sections_of (sorted (plant_value format parts)) ≡ Ok (record {
      format = format;
      horizon = parts.horizon;
      properties = sorted_items (items_of (map string parts.properties));
      crudes = sorted_items (items_of (map crude_value parts.crudes));
      vessels = sorted_items (items_of (map (vessel_value format) parts.vessels));
      storage = sorted_items (items_of (map storage_value parts.storage));
      charging = sorted_items (items_of (map charging_value parts.charging));
      units = sorted_items (items_of (map unit_value parts.units));
      operations = sorted_items (items_of (map operation_value parts.operations));
    })
unfolding sections_of
sections_read One parts h = rw (whole_read parts.horizon h) refl
sections_read Two parts h = rw (whole_read parts.horizon h) refl
sections_read Three parts h = rw (whole_read parts.horizon h) refl

pub parts_read : (format : PlantFormat) (parts : Parts) → FitsParts format parts → parts_of (sorted (plant_value format parts)) ≡ Ok parts
unfolding parts_of
parts_read format parts h = rw (
  sections_read format parts h.horizon,
  entries_read string property_at IsName property_read 1 parts.properties h.properties,
  entries_read crude_value crude_at FitsCrude crude_read 1 parts.crudes h.crudes,
  entries_read (vessel_value format) (vessel_at format) (FitsVessel format) (vessel_read format) 1 parts.vessels h.vessels,
  entries_read storage_value storage_at FitsStorage storage_read 1 parts.storage h.storage,
  entries_read charging_value charging_at FitsCharging charging_read 1 parts.charging h.charging,
  entries_read unit_value unit_at FitsUnit unit_read 1 parts.units h.units,
  entries_read operation_value operation_at FitsOperation operation_read 1 parts.operations h.operations,
) refl
