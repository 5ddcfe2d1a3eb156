-- The JSON value of a plant, with the keys of each entry in the order in which they are written.
use Rattle.std.proofs.Common.{◌≡◌, ℕ, ℤ, pos, negsuc, List, [], ◌∷◌, ◌++◌, map, refl, ap, ap₂}
use Rattle.std.specs.Prelude.{codes, decimal}
use Rattle.std.specs.Fmt.{signed_decimal}
use Rattle.serde_json.specs.Data.{unsigned, Data, boolean, number, string, array, object, Members, no_members, member}
use Rattle.serde_json.specs.Find.{of_integer}
use Rattle.serde_json.specs.View.{items_of}
use Rattle.serde_json.specs.Written.{number_text}
use Rattle.plant_model.specs.declared.parts.Pair.{Pair}
use Rattle.plant_model.specs.declared.parts.Parts.{Parts}
use Rattle.plant_model.specs.declared.parts.CrudePart.{CrudePart}
use Rattle.plant_model.specs.declared.parts.VesselPart.{VesselPart}
use Rattle.plant_model.specs.declared.parts.TankPart.{TankPart}
use Rattle.plant_model.specs.declared.parts.UnitPart.{UnitPart}
use Rattle.plant_model.specs.declared.parts.OperationPart.{OperationPart}
use Rattle.plant_text.specs.declared.kinds.PlantFormat.{PlantFormat}
use Rattle.plant_text.specs.declared.kinds.PlantFormat.TheVariants.{One, Two, Three}
use Rattle.plant_model.specs.declared.place.Key.TheVariants as key
use Rattle.plant_text.specs.Canonical.{member_text, under, flag_text, list_text, object_text, numbers_text, pair_text, crude_text, vessel_text, storage_text, charging_text, unit_text, route_members, range_members, operation_text, format_number, format_for, front_members, place_members, plant_text_of, quoted}
use Rattle.plant_text.proofs.PlainValues.{text_of, item_texts}

-- a whole number
abbrev pub whole : ℤ → Data
whole z = number (of_integer z)

-- a list
abbrev pub list_value : {X : Type 0} → (X → Data) → List X → Data
list_value value xs = array (items_of (map value xs))

abbrev pub pair_value : Pair → Data
pair_value pair = list_value whole (pair.lo ∷ pair.hi ∷ [])

abbrev pub crude_value : CrudePart → Data
crude_value crude = object
    (member (codes "name") (string crude.name)
    (member (codes "margin") (whole crude.margin)
    (member (codes "properties") (list_value whole crude.properties) no_members)))

abbrev pub berthing_values : PlantFormat → VesselPart → Members
berthing_values One vessel = no_members
berthing_values Two vessel = member (codes "berth") (whole vessel.berth) no_members
berthing_values Three vessel = member (codes "berth") (whole vessel.berth) (member (codes "demurrage") (whole vessel.demurrage) no_members)

abbrev pub vessel_value : PlantFormat → VesselPart → Data
vessel_value format vessel = object
    (member (codes "name") (string vessel.name)
    (member (codes "arrival") (whole vessel.arrival)
    (member (codes "amounts") (list_value whole vessel.amounts) (berthing_values format vessel))))

abbrev pub tank_value : TankPart → Members → Data
tank_value tank others = object
    (member (codes "name") (string tank.name)
    (member (codes "min") (whole tank.min)
    (member (codes "max") (whole tank.max)
    (member (codes "amounts") (list_value whole tank.amounts) others))))

abbrev pub storage_value : TankPart → Data
storage_value tank = tank_value tank no_members

abbrev pub charging_value : TankPart → Data
charging_value tank = tank_value tank (member (codes "demand") (pair_value tank.demand) no_members)

abbrev pub unit_value : UnitPart → Data
unit_value part = object
    (member (codes "name") (string part.name)
    (member (codes "continuous") (boolean part.continuous)
    (member (codes "charges") (pair_value part.charges) no_members)))

abbrev pub operation_value : OperationPart → Data
operation_value operation = object
    (member (codes "name") (string operation.name)
    (member (codes "from") (string operation.from)
    (member (codes "to") (string operation.to)
    (member (codes "rate") (pair_value operation.rate)
    (member (codes "volume") (pair_value operation.volume)
    (member (codes "window") (pair_value operation.window)
    (member (codes "limits") (list_value pair_value operation.limits) no_members)))))))

abbrev pub plant_value : PlantFormat → Parts → Data
plant_value format parts = object
    (member (codes "format") (number (unsigned (format_number format)))
    (member (codes "horizon") (whole parts.horizon)
    (member (codes "properties") (list_value string parts.properties)
    (member (codes "crudes") (list_value crude_value parts.crudes)
    (member (codes "vessels") (list_value (vessel_value format) parts.vessels)
    (member (codes "storage") (list_value storage_value parts.storage)
    (member (codes "charging") (list_value charging_value parts.charging)
    (member (codes "units") (list_value unit_value parts.units)
    (member (codes "operations") (list_value operation_value parts.operations) no_members)))))))))

-- ---- their texts

number_text-integer : (z : ℤ) → number_text (of_integer z) ≡ signed_decimal z
number_text-integer (pos n) = refl
number_text-integer (negsuc n) = refl

item_texts-map : {X : Type 0} (value : X → Data) (text : X → List ℕ) → ((x : X) → text_of (value x) ≡ text x) → (xs : List X)
    → item_texts (items_of (map value xs)) ≡ map text xs
item_texts-map value text same [] = refl
item_texts-map value text same (x ∷ xs) = ap₂ (λ (t : List ℕ) (ts : List (List ℕ)). t ∷ ts) (same x) (item_texts-map value text same xs)

list_told : {X : Type 0} (value : X → Data) (text : X → List ℕ) → ((x : X) → text_of (value x) ≡ text x) → (xs : List X)
    → text_of (list_value value xs) ≡ list_text (map text xs)
list_told value text same xs = ap list_text (item_texts-map value text same xs)

numbers_told : (numbers : List ℤ) → text_of (list_value whole numbers) ≡ numbers_text numbers
numbers_told numbers = list_told whole signed_decimal number_text-integer numbers

pair_told : (pair : Pair) → text_of (pair_value pair) ≡ pair_text pair
pair_told pair = numbers_told (pair.lo ∷ pair.hi ∷ [])

crude_told : (crude : CrudePart) → text_of (crude_value crude) ≡ crude_text crude
unfolding crude_text
crude_told crude =
    λ i. object_text (under key.Name (quoted crude.name) ∷ under key.Margin (number_text-integer crude.margin i)
    ∷ under key.Properties (numbers_told crude.properties i) ∷ [])

vessel_told : (format : PlantFormat) (vessel : VesselPart) → text_of (vessel_value format vessel) ≡ vessel_text format vessel
unfolding vessel_text
vessel_told One vessel =
    λ i. object_text (under key.Name (quoted vessel.name) ∷ under key.Arrival (number_text-integer vessel.arrival i)
    ∷ under key.Amounts (numbers_told vessel.amounts i) ∷ [])
vessel_told Two vessel =
    λ i. object_text (under key.Name (quoted vessel.name) ∷ under key.Arrival (number_text-integer vessel.arrival i)
    ∷ under key.Amounts (numbers_told vessel.amounts i) ∷ under key.Berth (number_text-integer vessel.berth i) ∷ [])
vessel_told Three vessel =
    λ i. object_text (under key.Name (quoted vessel.name) ∷ under key.Arrival (number_text-integer vessel.arrival i)
    ∷ under key.Amounts (numbers_told vessel.amounts i) ∷ under key.Berth (number_text-integer vessel.berth i)
    ∷ under key.Demurrage (number_text-integer vessel.demurrage i) ∷ [])

storage_told : (tank : TankPart) → text_of (storage_value tank) ≡ storage_text tank
unfolding storage_text
storage_told tank =
    λ i. object_text (under key.Name (quoted tank.name) ∷ under key.Min (number_text-integer tank.min i)
    ∷ under key.Max (number_text-integer tank.max i) ∷ under key.Amounts (numbers_told tank.amounts i) ∷ [])

charging_told : (tank : TankPart) → text_of (charging_value tank) ≡ charging_text tank
unfolding charging_text
charging_told tank =
    λ i. object_text (under key.Name (quoted tank.name) ∷ under key.Min (number_text-integer tank.min i)
    ∷ under key.Max (number_text-integer tank.max i) ∷ under key.Amounts (numbers_told tank.amounts i)
    ∷ under key.Demand (pair_told tank.demand i) ∷ [])

unit_told : (part : UnitPart) → text_of (unit_value part) ≡ unit_text part
unfolding unit_text
unit_told part =
    λ i. object_text (under key.Name (quoted part.name) ∷ under key.Continuous (flag_text part.continuous)
    ∷ under key.Charges (pair_told part.charges i) ∷ [])

operation_told : (operation : OperationPart) → text_of (operation_value operation) ≡ operation_text operation
unfolding route_members range_members operation_text
operation_told operation =
    λ i. object_text (under key.Name (quoted operation.name) ∷ under key.From (quoted operation.from) ∷ under key.To (quoted operation.to)
    ∷ under key.Rate (pair_told operation.rate i) ∷ under key.Volume (pair_told operation.volume i)
    ∷ under key.Window (pair_told operation.window i) ∷ under key.Limits (list_told pair_value pair_text pair_told operation.limits i) ∷ [])

-- the text of a plant is that of its value, with a line feed behind it
pub plant_told : (parts : Parts) → text_of (plant_value (format_for parts.vessels) parts) ++ 10 ∷ [] ≡ plant_text_of parts
unfolding front_members place_members plant_text_of
plant_told parts =
    let format = format_for parts.vessels in
    λ i. object_text (under key.Format (decimal (format_number format)) ∷ under key.Horizon (number_text-integer parts.horizon i)
    ∷ member_text (codes "properties") (list_told string quoted (λ name. refl) parts.properties i)
    ∷ member_text (codes "crudes") (list_told crude_value crude_text crude_told parts.crudes i)
    ∷ member_text (codes "vessels") (list_told (vessel_value format) (vessel_text format) (vessel_told format) parts.vessels i)
    ∷ member_text (codes "storage") (list_told storage_value storage_text storage_told parts.storage i)
    ∷ member_text (codes "charging") (list_told charging_value charging_text charging_told parts.charging i)
    ∷ member_text (codes "units") (list_told unit_value unit_text unit_told parts.units i)
    ∷ member_text (codes "operations") (list_told operation_value operation_text operation_told parts.operations i)
    ∷ []) ++ 10 ∷ []
