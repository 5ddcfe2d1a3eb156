-- What may be wrong with the parts of a plant: 24 kinds of fault, each with its place.
-- They stand by number, and for one number in the order of the sections, then of the entries, then of the keys.
use Rattle.std.specs.Prelude.{◌≡◌, ℕ, ◌+◌, ◌-◌, ℤ, pos, neg_ℤ, ◌+ℤ◌, int_le, int_lt, Bool, true, false, ◌&&◌, nat_le, ◌==◌, Option, Result, Some, is_some, List, [], ◌++◌, map, fold, length, slice_index_or}
use Rattle.std.specs.List.{list_all}
use Rattle.std.specs.Result.{result_err}
use Rattle.std.specs.Borrow.{Bor}
use Rattle.limits.specs.declared.TheConstants.{MOST_CRUDES, MOST_HORIZON, MOST_MARGIN, MOST_OPERATIONS, MOST_PROPERTIES, MOST_PROPERTY, MOST_RATE, MOST_SLOTS, MOST_TANKS, MOST_UNITS, MOST_VESSELS, MOST_VOLUME, MOST_BERTHS, MOST_DEMURRAGE}
use Rattle.item_lists.specs.Faults.{first_of, unless, each_from}
use Rattle.line_text.specs.Name.{is_name}
use Rattle.plant_model.specs.declared.parts.Pair.{Pair}
use Rattle.plant_model.specs.declared.parts.CrudePart.{CrudePart}
use Rattle.plant_model.specs.declared.parts.VesselPart.{VesselPart}
use Rattle.plant_model.specs.declared.parts.TankPart.{TankPart}
use Rattle.plant_model.specs.declared.parts.UnitPart.{UnitPart}
use Rattle.plant_model.specs.declared.parts.OperationPart.{OperationPart}
use Rattle.plant_model.specs.declared.parts.Parts.{Parts}
use Rattle.plant_model.specs.declared.place.Section.{Section}
use Rattle.plant_model.specs.declared.place.Section.TheVariants.{Plant, Properties, Crudes, Vessels, Storage, Charging, Units, Operations}
use Rattle.plant_model.specs.declared.place.Key.{Key}
use Rattle.plant_model.specs.declared.place.Key.TheVariants.{List as ListKey, Horizon, Name, Margin, Properties as PropertiesKey, Arrival, Amounts, Berth, Demurrage, Min, Demand, Charges, From, To, Rate, Volume, Window, Limits}
use Rattle.plant_model.specs.declared.place.PlantFault.{PlantFault}
use Rattle.plant_model.specs.declared.place.PlantNewFault.{PlantNewFault}
use Rattle.plant_model.specs.declared.place.PlantNewFault.TheVariants.{Fault, Memory}
use Rattle.plant_model.specs.declared.details.PlaceKind.{PlaceKind}
use Rattle.plant_model.specs.declared.details.PlaceKind.TheVariants.{Vessel, Storage as StorageTank, Charging as ChargingTank, Unit as DistillationUnit}
use Rattle.plant_model.specs.Parts.{position_of, crude_names_of, place_names_of, op_names_of, kind_named, arrival_named}

-- a fault by its number and its place
abbrev pub fault : ℕ → Section → ℕ → Key → PlantFault
fault number section index key =
    record { number = number; place = record { section = section; index = index; key = key } }

-- whether the number is from low to high
abbrev pub is_within : ℤ → ℤ → ℤ → Bool
is_within low high z = int_le low z && int_le z high

-- a range from low to high at most
abbrev pub is_range : ℤ → ℤ → Pair → Bool
is_range low high pair = int_le low pair.lo && int_le pair.lo pair.hi && int_le pair.hi high

-- what the amounts of all crudes come to
abbrev pub total_of : List ℤ → ℤ
total_of amounts = fold ◌+ℤ◌ (pos 0) amounts

-- whatever faults of an entry the calls find the first of, the result is the first over all the entries
abbrev pub FirstOfEach : {T : Type 0} → (ℕ → Bor T → Result (Unit {0}) PlantFault → Type 0) → List T
    → Result (Unit {0}) PlantFault → Type 0
FirstOfEach {T} call_gives entries result =
    (faults : ℕ → T → List PlantFault)
    → ((index : ℕ) (entry : Bor T) (found : Result (Unit {0}) PlantFault) → call_gives index entry found
    → result_err found ≡ first_of (faults index entry.now))
    → result_err result ≡ first_of (each_from faults 1 entries)

-- ---- 1: the horizon; 2 to 7: how many entries the sections have

-- a horizon of no minute, or of too many
abbrev pub horizon_faults : Parts → List PlantFault
horizon_faults parts = unless (is_within (pos 1) (pos MOST_HORIZON) parts.horizon) (fault 1 Plant 0 Horizon)

-- that, and then each section that has too many entries, or no crude
unfoldable pub count_faults : Parts → List PlantFault
count_faults parts =
    horizon_faults parts
    ++ unless (nat_le 1 (length parts.crudes) && nat_le (length parts.crudes) MOST_CRUDES) (fault 2 Crudes 0 ListKey)
    ++ unless (nat_le (length parts.properties) MOST_PROPERTIES) (fault 3 Properties 0 ListKey)
    ++ unless (nat_le (length parts.vessels) MOST_VESSELS) (fault 4 Vessels 0 ListKey)
    ++ unless (nat_le (length parts.storage + length parts.charging) MOST_TANKS) (fault 5 Storage 0 ListKey)
    ++ unless (nat_le (length parts.units) MOST_UNITS) (fault 6 Units 0 ListKey)
    ++ unless (nat_le (length parts.operations) MOST_OPERATIONS) (fault 7 Operations 0 ListKey)

-- ---- 8: names of the wrong form; 9: names that stood before

-- a name that has not the form of names
abbrev pub name_faults : Section → ℕ → List ℕ → List PlantFault
name_faults section index name = unless (is_name name) (fault 8 section index Name)

-- section by section
unfoldable pub all_name_faults : Parts → List PlantFault
all_name_faults parts =
    each_from (name_faults Properties) 1 parts.properties
    ++ each_from (λ index (crude : CrudePart). name_faults Crudes index crude.name) 1 parts.crudes
    ++ each_from (λ index (vessel : VesselPart). name_faults Vessels index vessel.name) 1 parts.vessels
    ++ each_from (λ index (tank : TankPart). name_faults Storage index tank.name) 1 parts.storage
    ++ each_from (λ index (tank : TankPart). name_faults Charging index tank.name) 1 parts.charging
    ++ each_from (λ index (part : UnitPart). name_faults Units index part.name) 1 parts.units
    ++ each_from (λ index (operation : OperationPart). name_faults Operations index operation.name) 1 parts.operations

-- the names among which each name of the section stands once
abbrev pub names_beside : Parts → Section → List (List ℕ)
names_beside parts Plant = []
names_beside parts Properties = parts.properties
names_beside parts Crudes = crude_names_of parts
names_beside parts Vessels = place_names_of parts
names_beside parts Storage = place_names_of parts
names_beside parts Charging = place_names_of parts
names_beside parts Units = place_names_of parts
names_beside parts Operations = op_names_of parts

-- how many of these stand before the section
abbrev pub names_before : Parts → Section → ℕ
names_before parts Plant = 0
names_before parts Properties = 0
names_before parts Crudes = 0
names_before parts Vessels = 0
names_before parts Storage = length parts.vessels
names_before parts Charging = length parts.vessels + length parts.storage
names_before parts Units = length parts.vessels + length parts.storage + length parts.charging
names_before parts Operations = 0

-- the entry is not the first with its name
abbrev pub repeat_faults : Parts → Section → ℕ → List ℕ → List PlantFault
repeat_faults parts section index name =
    unless (position_of name (names_beside parts section) == names_before parts section + index - 1)
    (fault 9 section index Name)

-- section by section
unfoldable pub all_repeat_faults : Parts → List PlantFault
all_repeat_faults parts =
    each_from (repeat_faults parts Properties) 1 parts.properties
    ++ each_from (λ index (crude : CrudePart). repeat_faults parts Crudes index crude.name) 1 parts.crudes
    ++ each_from (λ index (vessel : VesselPart). repeat_faults parts Vessels index vessel.name) 1 parts.vessels
    ++ each_from (λ index (tank : TankPart). repeat_faults parts Storage index tank.name) 1 parts.storage
    ++ each_from (λ index (tank : TankPart). repeat_faults parts Charging index tank.name) 1 parts.charging
    ++ each_from (λ index (part : UnitPart). repeat_faults parts Units index part.name) 1 parts.units
    ++ each_from (λ index (operation : OperationPart). repeat_faults parts Operations index operation.name) 1
    parts.operations

-- ---- 10 to 12: crudes

-- a margin that is too great, or too far below 0
abbrev pub margin_faults : ℕ → CrudePart → List PlantFault
margin_faults index crude =
    unless (is_within (neg_ℤ (pos MOST_MARGIN)) (pos MOST_MARGIN) crude.margin) (fault 10 Crudes index Margin)

-- more or fewer values than the plant has properties
abbrev pub property_count_faults : ℕ → ℕ → CrudePart → List PlantFault
property_count_faults count index crude =
    unless (length crude.properties == count) (fault 11 Crudes index PropertiesKey)

-- a value of a property out of range
abbrev pub property_faults : ℕ → CrudePart → List PlantFault
property_faults index crude =
    unless (list_all (is_within (pos 0) (pos MOST_PROPERTY)) crude.properties) (fault 12 Crudes index PropertiesKey)

-- crude by crude, one kind of fault after another
unfoldable pub crude_faults : Parts → List PlantFault
crude_faults parts =
    each_from margin_faults 1 parts.crudes
    ++ each_from (property_count_faults (length parts.properties)) 1 parts.crudes
    ++ each_from property_faults 1 parts.crudes

-- ---- 13 and 14: what vessels and tanks hold

-- more or fewer amounts than there are crudes
abbrev pub amount_count_faults : ℕ → Section → ℕ → List ℤ → List PlantFault
amount_count_faults count section index amounts = unless (length amounts == count) (fault 13 section index Amounts)

-- an amount out of range, or too much in all
abbrev pub amount_faults : Section → ℕ → List ℤ → List PlantFault
amount_faults section index amounts =
    unless (list_all (is_within (pos 0) (pos MOST_VOLUME)) amounts && int_le (total_of amounts) (pos MOST_VOLUME))
    (fault 14 section index Amounts)

-- what stands of the amounts of each vessel and tank
abbrev pub each_amounts : (Section → ℕ → List ℤ → List PlantFault) → Parts → List PlantFault
each_amounts faults parts =
    each_from (λ index (vessel : VesselPart). faults Vessels index vessel.amounts) 1 parts.vessels
    ++ each_from (λ index (tank : TankPart). faults Storage index tank.amounts) 1 parts.storage
    ++ each_from (λ index (tank : TankPart). faults Charging index tank.amounts) 1 parts.charging

-- one kind of fault after the other
unfoldable pub all_amount_faults : Parts → List PlantFault
all_amount_faults parts =
    each_amounts (amount_count_faults (length parts.crudes)) parts ++ each_amounts amount_faults parts

-- ---- 15 and 16: arrivals

-- a vessel that arrives before the first minute or after the horizon
abbrev pub arrival_faults : ℤ → ℕ → VesselPart → List PlantFault
arrival_faults horizon index vessel = unless (is_within (pos 0) horizon vessel.arrival) (fault 15 Vessels index Arrival)

-- the arrival of the vessel before the one at the index, which for the first is its own
abbrev pub arrival_before : List VesselPart → ℕ → ℤ → ℤ
arrival_before vessels index own =
    slice_index_or (map (λ (vessel : VesselPart). vessel.arrival) vessels) (index - 2) own

-- a vessel that arrives before the one ahead of it
abbrev pub arrival_order_faults : List VesselPart → ℕ → VesselPart → List PlantFault
arrival_order_faults vessels index vessel =
    unless (int_le (arrival_before vessels index vessel.arrival) vessel.arrival) (fault 16 Vessels index Arrival)

-- one kind of fault after the other
unfoldable pub all_arrival_faults : Parts → List PlantFault
all_arrival_faults parts =
    each_from (arrival_faults parts.horizon) 1 parts.vessels
    ++ each_from (arrival_order_faults parts.vessels) 1 parts.vessels

-- ---- 17 and 18: levels of tanks; 19: demands, and charges of units

-- levels that are no range
abbrev pub level_faults : Section → ℕ → TankPart → List PlantFault
level_faults section index tank =
    unless (is_range (pos 0) (pos MOST_VOLUME) (record { lo = tank.min; hi = tank.max })) (fault 17 section index Min)

-- a tank that begins with less than its least level, or with more than its greatest
abbrev pub first_level_faults : Section → ℕ → TankPart → List PlantFault
first_level_faults section index tank =
    unless (is_within tank.min tank.max (total_of tank.amounts)) (fault 18 section index Amounts)

-- a demand that is no range
abbrev pub demand_faults : ℕ → TankPart → List PlantFault
demand_faults index tank = unless (is_range (pos 0) (pos MOST_VOLUME) tank.demand) (fault 19 Charging index Demand)

-- numbers of charges that are no range
abbrev pub charge_count_faults : ℕ → UnitPart → List PlantFault
charge_count_faults index part = unless (is_range (pos 0) (pos MOST_SLOTS) part.charges) (fault 19 Units index Charges)

-- one kind of fault after another
unfoldable pub level_and_demand_faults : Parts → List PlantFault
level_and_demand_faults parts =
    each_from (level_faults Storage) 1 parts.storage
    ++ each_from (level_faults Charging) 1 parts.charging
    ++ each_from (first_level_faults Storage) 1 parts.storage
    ++ each_from (first_level_faults Charging) 1 parts.charging
    ++ each_from demand_faults 1 parts.charging
    ++ each_from charge_count_faults 1 parts.units

-- ---- 20 and 21: where operations lead; 22: their ranges

-- an end of the operation that no place is named by
abbrev pub unknown_place_faults : Parts → ℕ → OperationPart → List PlantFault
unknown_place_faults parts index operation =
    unless (is_some (kind_named parts operation.from)) (fault 20 Operations index From)
    ++ unless (is_some (kind_named parts operation.to)) (fault 20 Operations index To)

-- crude goes from vessels to storage, from storage to charging tanks, from these to units
abbrev pub is_route : Option PlaceKind → Option PlaceKind → Bool
is_route (Some Vessel) (Some StorageTank) = true
is_route (Some StorageTank) (Some ChargingTank) = true
is_route (Some ChargingTank) (Some DistillationUnit) = true
is_route _ _ = false

-- an operation that goes no such way
abbrev pub route_faults : Parts → ℕ → OperationPart → List PlantFault
route_faults parts index operation =
    unless (is_route (kind_named parts operation.from) (kind_named parts operation.to)) (fault 21 Operations index To)

-- within the horizon, and no earlier than the vessel that is unloaded
abbrev pub is_window : ℤ → ℤ → Pair → Bool
is_window horizon arrival window =
    int_le (pos 0) window.lo && int_lt window.lo window.hi && int_le window.hi horizon && int_le arrival window.lo

-- one limit for each property where a charging tank is charged from, else none
abbrev pub limit_count : ℕ → Option PlaceKind → ℕ
limit_count properties (Some ChargingTank) = properties
limit_count properties _ = 0

-- so many ranges of a property
abbrev pub are_limits : ℕ → List Pair → Bool
are_limits count limits = length limits == count && list_all (is_range (pos 0) (pos MOST_PROPERTY)) limits

-- a rate, a volume, a window or limits out of range
abbrev pub range_faults : Parts → ℕ → OperationPart → List PlantFault
range_faults parts index operation =
    unless (is_range (pos 0) (pos MOST_RATE) operation.rate) (fault 22 Operations index Rate)
    ++ unless (is_range (pos 1) (pos MOST_VOLUME) operation.volume) (fault 22 Operations index Volume)
    ++ unless (is_window parts.horizon (arrival_named parts operation.from) operation.window)
    (fault 22 Operations index Window)
    ++ unless (are_limits (limit_count (length parts.properties) (kind_named parts operation.from)) operation.limits)
    (fault 22 Operations index Limits)

-- one kind of fault after another
unfoldable pub operation_faults : Parts → List PlantFault
operation_faults parts =
    each_from (unknown_place_faults parts) 1 parts.operations
    ++ each_from (route_faults parts) 1 parts.operations
    ++ each_from (range_faults parts) 1 parts.operations

-- ---- 23 and 24: the berths of vessels, and what they pay

-- a berth out of range
abbrev pub berth_faults : ℕ → VesselPart → List PlantFault
berth_faults index vessel = unless (is_within (pos 1) (pos MOST_BERTHS) vessel.berth) (fault 23 Vessels index Berth)

-- a demurrage out of range
abbrev pub demurrage_faults : ℕ → VesselPart → List PlantFault
demurrage_faults index vessel =
    unless (is_within (pos 0) (pos MOST_DEMURRAGE) vessel.demurrage) (fault 24 Vessels index Demurrage)

-- one kind of fault after the other
unfoldable pub berthing_faults : Parts → List PlantFault
berthing_faults parts = each_from berth_faults 1 parts.vessels ++ each_from demurrage_faults 1 parts.vessels

-- ---- all of them

-- all faults but those of the horizon and the counts
unfoldable pub entry_faults : Parts → List PlantFault
entry_faults parts =
    all_name_faults parts
    ++ all_repeat_faults parts
    ++ crude_faults parts
    ++ all_amount_faults parts
    ++ all_arrival_faults parts
    ++ level_and_demand_faults parts
    ++ operation_faults parts
    ++ berthing_faults parts

-- every fault that stands in the parts
unfoldable pub faults_of : Parts → List PlantFault
faults_of parts = count_faults parts ++ entry_faults parts

-- a plant in which nothing is wrong
abbrev pub IsSound : Parts → Type 0
IsSound parts = faults_of parts ≡ []

-- what parts are refused with: the first fault, or want of memory where there is none
abbrev pub IsRefusal : Parts → PlantNewFault → Type 0
IsRefusal parts (Fault fault) = first_of (faults_of parts) ≡ Some fault
IsRefusal parts Memory = IsSound parts
