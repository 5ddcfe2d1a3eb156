-- The one text of a plant: JSON without blanks, the keys of each entry in one order, and a line feed at the end. It is
-- of the first format that tells all of the plant.
use Rattle.std.specs.Prelude.{ℕ, Bool, true, false, not, ℤ, pos, List, [], ◌∷◌, ◌++◌, map, decimal, codes, if◌then◌else◌}
use Rattle.std.specs.Fmt.{signed_decimal}
use Rattle.std.specs.List.{flat_map, list_any}
use Rattle.std.specs.Ordering.{int_eq}
use Rattle.line_text.specs.Words.{line_of}
use Rattle.plant_model.specs.declared.place.Section.{Section}
use Rattle.plant_model.specs.declared.place.Section.TheVariants as section
use Rattle.plant_model.specs.declared.place.Key.{Key}
use Rattle.plant_model.specs.declared.place.Key.TheVariants as key
use Rattle.plant_model.specs.declared.place.Place.{Place}
use Rattle.plant_model.specs.declared.parts.Pair.{Pair}
use Rattle.plant_model.specs.declared.parts.Parts.{Parts}
use Rattle.plant_model.specs.declared.parts.CrudePart.{CrudePart}
use Rattle.plant_model.specs.declared.parts.VesselPart.{VesselPart}
use Rattle.plant_model.specs.declared.parts.TankPart.{TankPart}
use Rattle.plant_model.specs.declared.parts.UnitPart.{UnitPart}
use Rattle.plant_model.specs.declared.parts.OperationPart.{OperationPart}
use Rattle.plant_text.specs.declared.kinds.PlantFormat.{PlantFormat}
use Rattle.plant_text.specs.declared.kinds.PlantFormat.TheVariants.{One, Two, Three}
use Rattle.plant_text.specs.Names.{section_name, key_name}

-- ---- how JSON is written

-- texts, each behind a comma (44)
abbrev pub behind_commas : List (List ℕ) → List ℕ
behind_commas texts = flat_map (λ text. 44 ∷ text) texts

-- texts with a comma between each and the next
abbrev pub with_commas : List (List ℕ) → List ℕ
with_commas [] = []
with_commas (text ∷ texts) = text ++ behind_commas texts

-- a list of items, in brackets (91, 93)
abbrev pub list_text : List (List ℕ) → List ℕ
list_text items = 91 ∷ with_commas items ++ 93 ∷ []

-- an object of members, in braces (123, 125)
abbrev pub object_text : List (List ℕ) → List ℕ
object_text members = 123 ∷ with_commas members ++ 125 ∷ []

-- a word in quotes (34); names have no byte that JSON writes in another way
abbrev pub quoted : List ℕ → List ℕ
quoted word = 34 ∷ word ++ 34 ∷ []

-- a member: its key, a colon (58), and the text of its value
unfoldable pub member_text : List ℕ → List ℕ → List ℕ
member_text name text = quoted name ++ 58 ∷ text

-- what an entry has under a key
abbrev pub under : Key → List ℕ → List ℕ
under k text = member_text (key_name k) text

-- ---- the kinds of value

-- true or false
abbrev pub flag_text : Bool → List ℕ
flag_text true = codes "true"
flag_text false = codes "false"

-- a list of whole numbers
abbrev pub numbers_text : List ℤ → List ℕ
numbers_text numbers = list_text (map signed_decimal numbers)

-- the lower end and the upper end
abbrev pub pair_text : Pair → List ℕ
pair_text pair = numbers_text (pair.lo ∷ pair.hi ∷ [])

-- ---- the entries

-- a crude, with its margin and its properties
unfoldable pub crude_text : CrudePart → List ℕ
crude_text crude =
    object_text (under key.Name (quoted crude.name)
    ∷ under key.Margin (signed_decimal crude.margin)
    ∷ under key.Properties (numbers_text crude.properties)
    ∷ [])

-- what a format tells of a vessel besides its cargo
abbrev pub berthing_members : PlantFormat → VesselPart → List (List ℕ)
berthing_members One vessel = []
berthing_members Two vessel = under key.Berth (signed_decimal vessel.berth) ∷ []
berthing_members Three vessel =
    under key.Berth (signed_decimal vessel.berth) ∷ under key.Demurrage (signed_decimal vessel.demurrage) ∷ []

-- a vessel, with its arrival and its cargo
unfoldable pub vessel_text : PlantFormat → VesselPart → List ℕ
vessel_text format vessel =
    object_text (under key.Name (quoted vessel.name)
    ∷ under key.Arrival (signed_decimal vessel.arrival)
    ∷ under key.Amounts (numbers_text vessel.amounts)
    ∷ berthing_members format vessel)

-- what is told of every tank: its levels, and what it holds at first
abbrev pub tank_members : TankPart → List (List ℕ)
tank_members tank =
    under key.Name (quoted tank.name)
    ∷ under key.Min (signed_decimal tank.min)
    ∷ under key.Max (signed_decimal tank.max)
    ∷ under key.Amounts (numbers_text tank.amounts)
    ∷ []

-- a storage tank
unfoldable pub storage_text : TankPart → List ℕ
storage_text tank = object_text (tank_members tank)

-- a charging tank, with its demand
unfoldable pub charging_text : TankPart → List ℕ
charging_text tank = object_text (tank_members tank ++ under key.Demand (pair_text tank.demand) ∷ [])

-- a unit, and how often it is charged
unfoldable pub unit_text : UnitPart → List ℕ
unit_text part =
    object_text (under key.Name (quoted part.name)
    ∷ under key.Continuous (flag_text part.continuous)
    ∷ under key.Charges (pair_text part.charges)
    ∷ [])

-- the name of an operation, and those of its places
unfoldable pub route_members : OperationPart → List (List ℕ)
route_members operation =
    under key.Name (quoted operation.name)
    ∷ under key.From (quoted operation.from)
    ∷ under key.To (quoted operation.to)
    ∷ []

-- the ranges of an operation
unfoldable pub range_members : OperationPart → List (List ℕ)
range_members operation =
    under key.Rate (pair_text operation.rate)
    ∷ under key.Volume (pair_text operation.volume)
    ∷ under key.Window (pair_text operation.window)
    ∷ under key.Limits (list_text (map pair_text operation.limits))
    ∷ []

-- an operation
unfoldable pub operation_text : OperationPart → List ℕ
operation_text operation = object_text (route_members operation ++ range_members operation)

-- ---- the plant

-- some vessel pays demurrage
abbrev pub has_demurrage : List VesselPart → Bool
has_demurrage vessels = list_any (λ (vessel : VesselPart). not (int_eq vessel.demurrage (pos 0))) vessels

-- some vessel lies at another berth than 1
abbrev pub has_berths : List VesselPart → Bool
has_berths vessels = list_any (λ (vessel : VesselPart). not (int_eq vessel.berth (pos 1))) vessels

-- the first format that tells all of the vessels
abbrev pub format_for : List VesselPart → PlantFormat
format_for vessels = if has_demurrage vessels then Three else if has_berths vessels then Two else One

-- the number of a format
abbrev pub format_number : PlantFormat → ℕ
format_number One = 1
format_number Two = 2
format_number Three = 3

-- the list of a section
abbrev pub section_text : Section → List (List ℕ) → List ℕ
section_text s entries = member_text (section_name s) (list_text entries)

-- the format and the horizon of a plant, its properties and its crudes
unfoldable pub front_members : PlantFormat → Parts → List (List ℕ)
front_members format parts =
    under key.Format (decimal (format_number format))
    ∷ under key.Horizon (signed_decimal parts.horizon)
    ∷ section_text section.Properties (map quoted parts.properties)
    ∷ section_text section.Crudes (map crude_text parts.crudes)
    ∷ []

-- its places, the vessels told as in the format
unfoldable pub place_members : PlantFormat → Parts → List (List ℕ)
place_members format parts =
    section_text section.Vessels (map (vessel_text format) parts.vessels)
    ∷ section_text section.Storage (map storage_text parts.storage)
    ∷ section_text section.Charging (map charging_text parts.charging)
    ∷ section_text section.Units (map unit_text parts.units)
    ∷ []

-- all members of a plant
abbrev pub plant_members : PlantFormat → Parts → List (List ℕ)
plant_members format parts =
    front_members format parts ++ place_members format parts
    ++ section_text section.Operations (map operation_text parts.operations) ∷ []

-- the text of a plant, with its line feed (10)
unfoldable pub plant_text_of : Parts → List ℕ
plant_text_of parts = object_text (plant_members (format_for parts.vessels) parts) ++ 10 ∷ []

-- a place, in three words: its section, its index and its key
abbrev pub place_text_of : Place → List ℕ
place_text_of place = line_of (section_name place.section ∷ decimal place.index ∷ key_name place.key ∷ [])
