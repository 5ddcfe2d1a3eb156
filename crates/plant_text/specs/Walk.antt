-- The walk over a plant text: which parts its value says, or else the first place at which it has not its form.
use Rattle.std.specs.Prelude.{ℕ, ◌+◌, ◌-◌, ◌^◌, ◌&&◌, min, ℤ, pos, Bool, true, false, List, [], ◌∷◌, Option, Some, None, option_and_then, is_some, Result, Ok, Err, if◌then◌else◌, codes}
use Rattle.std.specs.List.{list_any}
use Rattle.std.specs.Option.{ok_or, option_map_or}
use Rattle.std.specs.Str.{bytes_eq}
use Rattle.std.specs.Ordering.{int_eq}
use Rattle.serde_json.specs.Data.{Data, Items, no_items, item, Members, no_members, member}
use Rattle.serde_json.specs.Find.{get, as_array, as_object, as_str, as_bool}
use Rattle.plant_model.specs.declared.place.Section.{Section}
use Rattle.plant_model.specs.declared.place.Section.TheVariants as section
use Rattle.plant_model.specs.declared.place.Key.{Key}
use Rattle.plant_model.specs.declared.place.Key.TheVariants as key
use Rattle.plant_model.specs.declared.parts.Parts.{Parts}
use Rattle.plant_model.specs.declared.parts.CrudePart.{CrudePart}
use Rattle.plant_model.specs.declared.parts.VesselPart.{VesselPart}
use Rattle.plant_model.specs.declared.parts.TankPart.{TankPart}
use Rattle.plant_model.specs.declared.parts.UnitPart.{UnitPart}
use Rattle.plant_model.specs.declared.parts.OperationPart.{OperationPart}
use Rattle.plant_text.specs.declared.kinds.PlantFormat.{PlantFormat}
use Rattle.plant_text.specs.declared.kinds.PlantFormat.TheVariants.{One, Two, Three}
use Rattle.plant_text.specs.declared.fault.PlantTextFault.{PlantTextFault}
use Rattle.plant_text.specs.declared.fault.PlantTextFault.TheVariants.{Shape}
use Rattle.plant_text.specs.Names.{section_name, key_name}
use Rattle.plant_text.specs.Kinds.{whole_number, whole_numbers, pair, pairs}

infixl 10 ◌>>=◌
-- a step of the walk, and then what follows from its value; the first fault ends the walk
abbrev pub ◌>>=◌ : {A B : Type 0} → Result A PlantTextFault → (A → Result B PlantTextFault) → Result B PlantTextFault
(Ok x) >>= f = f x
(Err fault) >>= f = Err fault

-- the walk ends at this place of an entry
abbrev pub misshapen : Section → ℕ → Key → PlantTextFault
misshapen s index k = Shape (record { section = s; index = index; key = k })

-- the walk ends there unless the test holds
abbrev pub holds_or : PlantTextFault → Bool → Result Bool PlantTextFault
holds_or fault true = Ok true
holds_or fault false = Err fault

-- what an entry has under a key, of the kind that is wanted there
abbrev pub field : {X : Type 0} → (Data → Option X) → Section → ℕ → Key → Data → Result X PlantTextFault
field kind s index k entry = ok_or (option_and_then kind (get (key_name k) entry)) (misshapen s index k)

-- each of these members has one of the keys
abbrev pub keyed_by : List (List ℕ) → Members → Bool
keyed_by keys no_members = true
keyed_by keys (member name value others) = list_any (bytes_eq name) keys && keyed_by keys others

-- no key but these
abbrev pub has_only : List (List ℕ) → Data → Bool
has_only keys entry = option_map_or (keyed_by keys) (as_object entry) true

-- an entry is an object
abbrev pub opened : Section → ℕ → Data → Result Bool PlantTextFault
opened s index entry = holds_or (misshapen s index key.Entry) (is_some (as_object entry))

-- an entry has no key but these
abbrev pub closed : Section → ℕ → List (List ℕ) → Data → Result Bool PlantTextFault
closed s index keys entry = holds_or (misshapen s index key.Entry) (has_only keys entry)

-- a property is its name
unfoldable pub property_at : ℕ → Data → Result (List ℕ) PlantTextFault
property_at index entry = ok_or (as_str entry) (misshapen section.Properties index key.Name)

-- a crude, with its margin and its properties
unfoldable pub crude_at : ℕ → Data → Result CrudePart PlantTextFault
crude_at index entry = do
  _ ← opened section.Crudes index entry
  name ← field as_str section.Crudes index key.Name entry
  margin ← field whole_number section.Crudes index key.Margin entry
  properties ← field whole_numbers section.Crudes index key.Properties entry
  _ ← closed section.Crudes index (codes "name" ∷ codes "margin" ∷ codes "properties" ∷ []) entry
  Ok (record { name = name; margin = margin; properties = properties })

-- the keys of a vessel
abbrev pub vessel_keys : PlantFormat → List (List ℕ)
vessel_keys One = codes "name" ∷ codes "arrival" ∷ codes "amounts" ∷ []
vessel_keys Two = codes "name" ∷ codes "arrival" ∷ codes "amounts" ∷ codes "berth" ∷ []
vessel_keys Three = codes "name" ∷ codes "arrival" ∷ codes "amounts" ∷ codes "berth" ∷ codes "demurrage" ∷ []

-- the berth of a vessel, which format 1 does not tell: it is 1
abbrev pub berth_at : PlantFormat → ℕ → Data → Result ℤ PlantTextFault
berth_at One index entry = Ok (pos 1)
berth_at Two index entry = field whole_number section.Vessels index key.Berth entry
berth_at Three index entry = field whole_number section.Vessels index key.Berth entry

-- the demurrage of a vessel, which format 3 alone tells: else it is 0
abbrev pub demurrage_at : PlantFormat → ℕ → Data → Result ℤ PlantTextFault
demurrage_at One index entry = Ok (pos 0)
demurrage_at Two index entry = Ok (pos 0)
demurrage_at Three index entry = field whole_number section.Vessels index key.Demurrage entry

-- a vessel, with its arrival and its cargo, and with what the format tells of its berth
unfoldable pub vessel_at : PlantFormat → ℕ → Data → Result VesselPart PlantTextFault
vessel_at format index entry = do
  _ ← opened section.Vessels index entry
  name ← field as_str section.Vessels index key.Name entry
  arrival ← field whole_number section.Vessels index key.Arrival entry
  amounts ← field whole_numbers section.Vessels index key.Amounts entry
  berth ← berth_at format index entry
  demurrage ← demurrage_at format index entry
  _ ← closed section.Vessels index (vessel_keys format) entry
  Ok (record { name = name; arrival = arrival; amounts = amounts; berth = berth; demurrage = demurrage })

-- a storage tank owes nothing: its demand is 0, 0
unfoldable pub storage_at : ℕ → Data → Result TankPart PlantTextFault
storage_at index entry = do
  _ ← opened section.Storage index entry
  name ← field as_str section.Storage index key.Name entry
  min ← field whole_number section.Storage index key.Min entry
  max ← field whole_number section.Storage index key.Max entry
  amounts ← field whole_numbers section.Storage index key.Amounts entry
  _ ← closed section.Storage index (codes "name" ∷ codes "min" ∷ codes "max" ∷ codes "amounts" ∷ []) entry
  Ok (record { name = name; min = min; max = max; amounts = amounts; demand = record { lo = pos 0; hi = pos 0 } })

-- the keys of a charging tank
abbrev pub charging_keys : List (List ℕ)
charging_keys = codes "name" ∷ codes "min" ∷ codes "max" ∷ codes "amounts" ∷ codes "demand" ∷ []

-- a charging tank, with its levels, what it holds at first, and its demand
unfoldable pub charging_at : ℕ → Data → Result TankPart PlantTextFault
charging_at index entry = do
  _ ← opened section.Charging index entry
  name ← field as_str section.Charging index key.Name entry
  min ← field whole_number section.Charging index key.Min entry
  max ← field whole_number section.Charging index key.Max entry
  amounts ← field whole_numbers section.Charging index key.Amounts entry
  demand ← field pair section.Charging index key.Demand entry
  _ ← closed section.Charging index charging_keys entry
  Ok (record { name = name; min = min; max = max; amounts = amounts; demand = demand })

-- a unit, and how often it is charged
unfoldable pub unit_at : ℕ → Data → Result UnitPart PlantTextFault
unit_at index entry = do
  _ ← opened section.Units index entry
  name ← field as_str section.Units index key.Name entry
  continuous ← field as_bool section.Units index key.Continuous entry
  charges ← field pair section.Units index key.Charges entry
  _ ← closed section.Units index (codes "name" ∷ codes "continuous" ∷ codes "charges" ∷ []) entry
  Ok (record { name = name; continuous = continuous; charges = charges })

-- the keys of an operation
abbrev pub operation_keys : List (List ℕ)
operation_keys =
    codes "name" ∷ codes "from" ∷ codes "to" ∷ codes "rate" ∷ codes "volume" ∷ codes "window" ∷ codes "limits" ∷ []

-- an operation, by the names of its places, with its ranges
unfoldable pub operation_at : ℕ → Data → Result OperationPart PlantTextFault
operation_at index entry = do
  _ ← opened section.Operations index entry
  name ← field as_str section.Operations index key.Name entry
  from ← field as_str section.Operations index key.From entry
  to ← field as_str section.Operations index key.To entry
  rate ← field pair section.Operations index key.Rate entry
  volume ← field pair section.Operations index key.Volume entry
  window ← field pair section.Operations index key.Window entry
  limits ← field pairs section.Operations index key.Limits entry
  _ ← closed section.Operations index operation_keys entry
  Ok (record { name = name; from = from; to = to; rate = rate; volume = volume; window = window; limits = limits })

-- entries are numbered from 1; past the greatest number that a place can have they keep that number
abbrev pub next_index : ℕ → ℕ
next_index index = min (index + 1) (2 ^ 32 - 1)

-- the entries of a section in their order
unfoldable pub entries_from : {X : Type 0} → (ℕ → Data → Result X PlantTextFault) → ℕ → Items
    → Result (List X) PlantTextFault
entries_from entry_at index no_items = Ok []
entries_from entry_at index (item entry others) = do
  first ← entry_at index entry
  rest ← entries_from entry_at (next_index index) others
  Ok (first ∷ rest)

-- the list that the plant has for a section
abbrev pub section_of : Section → Data → Result Items PlantTextFault
section_of s whole = ok_or (option_and_then as_array (get (section_name s) whole)) (misshapen s 0 key.List)

-- the format with the number
abbrev pub format_numbered : ℤ → Option PlantFormat
format_numbered number =
    if int_eq number (pos 1) then Some One
    else if int_eq number (pos 2) then Some Two
    else if int_eq number (pos 3) then Some Three
    else None

-- the format is the number 1, 2 or 3
abbrev pub format_of : Data → Option PlantFormat
format_of value = option_and_then format_numbered (whole_number value)

-- the keys of a plant
abbrev pub plant_keys : List (List ℕ)
plant_keys =
    codes "format" ∷ codes "horizon" ∷ codes "properties" ∷ codes "crudes" ∷ codes "vessels" ∷ codes "storage"
    ∷ codes "charging" ∷ codes "units" ∷ codes "operations" ∷ []

-- the lists that a plant has for its sections, with the format that they are read by, and its horizon
pub record Sections : Type 0 where
  pub format : PlantFormat
  pub horizon : ℤ
  pub properties : Items
  pub crudes : Items
  pub vessels : Items
  pub storage : Items
  pub charging : Items
  pub units : Items
  pub operations : Items

-- the plant as a whole: its keys are there and of their kinds, in order, and there are no others
unfoldable pub sections_of : Data → Result Sections PlantTextFault
sections_of whole = do
  _ ← opened section.Plant 0 whole
  format ← field format_of section.Plant 0 key.Format whole
  horizon ← field whole_number section.Plant 0 key.Horizon whole
  properties ← section_of section.Properties whole
  crudes ← section_of section.Crudes whole
  vessels ← section_of section.Vessels whole
  storage ← section_of section.Storage whole
  charging ← section_of section.Charging whole
  units ← section_of section.Units whole
  operations ← section_of section.Operations whole
  _ ← closed section.Plant 0 plant_keys whole
  Ok (record {
    format = format;
    horizon = horizon;
    properties = properties;
    crudes = crudes;
    vessels = vessels;
    storage = storage;
    charging = charging;
    units = units;
    operations = operations;
  })

-- then its sections in order, each entry by entry
unfoldable pub parts_of : Data → Result Parts PlantTextFault
parts_of whole = do
  s ← sections_of whole
  properties ← entries_from property_at 1 s.properties
  crudes ← entries_from crude_at 1 s.crudes
  vessels ← entries_from (vessel_at s.format) 1 s.vessels
  storage ← entries_from storage_at 1 s.storage
  charging ← entries_from charging_at 1 s.charging
  units ← entries_from unit_at 1 s.units
  operations ← entries_from operation_at 1 s.operations
  Ok (record {
    horizon = s.horizon;
    properties = properties;
    crudes = crudes;
    vessels = vessels;
    storage = storage;
    charging = charging;
    units = units;
    operations = operations;
  })
