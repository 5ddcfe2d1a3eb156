-- The plant of what was chosen, section by section. Crudes, vessels and tanks are numbered from 0, and named from 1.
use Rattle.std.specs.Prelude.{ℕ, ◌+◌, ◌*◌, ◌%◌, ℤ, pos, false, List, [], ◌∷◌, ◌++◌, map, codes, replicate, slice_set}
use Rattle.std.specs.List.{flat_map, range_with_len}
use Rattle.limits.specs.declared.TheConstants.{MOST_SLOTS, MOST_VOLUME}
use Rattle.plant_model.specs.declared.parts.Pair.{Pair}
use Rattle.plant_model.specs.declared.parts.CrudePart.{CrudePart}
use Rattle.plant_model.specs.declared.parts.VesselPart.{VesselPart}
use Rattle.plant_model.specs.declared.parts.TankPart.{TankPart}
use Rattle.plant_model.specs.declared.parts.UnitPart.{UnitPart}
use Rattle.plant_model.specs.declared.parts.OperationPart.{OperationPart}
use Rattle.plant_model.specs.declared.parts.Parts.{Parts}
use Rattle.plant_maker.specs.Choices.{Choices, choices_of}

-- ---- names

-- the digit of the number that an entry is named by: 1 (49) for the first
abbrev pub digit_of : ℕ → ℕ
digit_of entry = 49 + entry

-- A (65), B, C, D
abbrev pub crude_name : ℕ → List ℕ
crude_name crude = (65 + crude) ∷ []

-- V1, V2, V3
abbrev pub vessel_name : ℕ → List ℕ
vessel_name vessel = 86 ∷ digit_of vessel ∷ []

-- S1, S2, S3
abbrev pub storage_name : ℕ → List ℕ
storage_name tank = 83 ∷ digit_of tank ∷ []

-- C1, C2
abbrev pub charging_name : ℕ → List ℕ
charging_name tank = 67 ∷ digit_of tank ∷ []

-- U1
abbrev pub unit_name : List ℕ
unit_name = codes "U1"

-- a letter and two numbers with a line (95) between them, as u1_2
abbrev pub between : ℕ → ℕ → ℕ → List ℕ
between letter from to = letter ∷ digit_of from ∷ 95 ∷ digit_of to ∷ []

-- ---- crudes and vessels

-- from the lower end to the upper
abbrev pub pair : ℕ → ℕ → Pair
pair lo hi = record { lo = pos lo; hi = pos hi }

-- of so many crudes this amount of one, and nothing of the others
abbrev pub only : ℕ → ℕ → ℤ → List ℤ
only crudes crude amount = slice_set (replicate crudes (pos 0)) crude amount

-- a crude, which has the one property
unfoldable pub made_crude : Choices → ℕ → CrudePart
made_crude choices crude = record {
  name = crude_name crude;
  margin = pos (choices.margin crude);
  properties = pos (choices.sulphur crude) ∷ [];
}

-- a vessel arrives a day behind the one before it, with one crude
unfoldable pub made_vessel : Choices → ℕ → VesselPart
made_vessel choices vessel = record {
  name = vessel_name vessel;
  arrival = pos (1440 * vessel);
  amounts = only choices.crudes (vessel % choices.crudes) (pos (choices.cargo vessel));
  berth = pos 1;
  demurrage = pos 0;
}

-- ---- tanks and units

-- a tank of up to 1,000,000
abbrev pub tank : List ℕ → List ℤ → Pair → TankPart
tank name amounts demand =
    record { name = name; min = pos 0; max = pos 1000000; amounts = amounts; demand = demand }

-- a storage tank holds one crude
unfoldable pub made_storage : Choices → ℕ → TankPart
made_storage choices number =
    tank (storage_name number) (only choices.crudes (number % choices.crudes) (pos (choices.stock number))) (pair 0 0)

-- a charging tank holds 100,000 of the crude with its number, and has a demand of any volume
unfoldable pub made_charging : Choices → ℕ → TankPart
made_charging choices number =
    tank (charging_name number) (only choices.crudes number (pos 100000)) (pair 0 MOST_VOLUME)

-- the unit may stand idle, and takes as many charges as a search has slots
abbrev pub made_unit : UnitPart
made_unit = record { name = unit_name; continuous = false; charges = pair 0 MOST_SLOTS }

-- ---- operations

-- an operation from a minute to the horizon, of up to 500,000 a day and up to 500,000 in all
abbrev pub operation : Choices → List ℕ → List ℕ → List ℕ → ℕ → List Pair → OperationPart
operation choices name from to start limits = record {
  name = name;
  from = from;
  to = to;
  rate = pair 0 500000;
  volume = pair 1 500000;
  window = pair start choices.horizon;
  limits = limits;
}

-- a vessel is unloaded into a storage tank (u, 117) from its arrival on
unfoldable pub unload : Choices → ℕ → ℕ → OperationPart
unload choices vessel tank =
    operation choices (between 117 vessel tank) (vessel_name vessel) (storage_name tank) (1440 * vessel) []

-- a storage tank fills a charging tank (t, 116)
unfoldable pub transfer : Choices → ℕ → ℕ → OperationPart
transfer choices from to =
    operation choices (between 116 from to) (storage_name from) (charging_name to) 0 []

-- the unit is charged from a charging tank (c, 99), with a sulphur of at most 60
unfoldable pub charge : Choices → ℕ → OperationPart
charge choices tank =
    operation choices (99 ∷ digit_of tank ∷ []) (charging_name tank) unit_name 0 (pair 0 60 ∷ [])

-- ---- the sections, and the plant

-- an entry for each number below the count
abbrev pub entries : {X : Type 0} → (ℕ → X) → ℕ → List X
entries made count = map made (range_with_len 0 count)

-- the operations of each entry below the count, one entry after the other
abbrev pub entries_of_each : {X : Type 0} → (ℕ → List X) → ℕ → List X
entries_of_each made count = flat_map made (range_with_len 0 count)

-- each vessel into each storage tank
abbrev pub unloads : Choices → List OperationPart
unloads choices = entries_of_each (λ vessel. entries (unload choices vessel) choices.storage) choices.vessels

-- each storage tank into each of the two charging tanks
abbrev pub transfers : Choices → List OperationPart
transfers choices = entries_of_each (λ from. entries (transfer choices from) 2) choices.storage

-- one after the other
abbrev pub made_operations : Choices → List OperationPart
made_operations choices = unloads choices ++ transfers choices ++ entries (charge choices) 2

-- all parts
unfoldable pub parts_of : Choices → Parts
parts_of choices = record {
  horizon = pos choices.horizon;
  properties = codes "sulphur" ∷ [];
  crudes = entries (made_crude choices) choices.crudes;
  vessels = entries (made_vessel choices) choices.vessels;
  storage = entries (made_storage choices) choices.storage;
  charging = entries (made_charging choices) 2;
  units = made_unit ∷ [];
  operations = made_operations choices;
}

-- the parts of the plant of a number
abbrev pub made_parts : ℕ → Parts
made_parts number = parts_of (choices_of number)
