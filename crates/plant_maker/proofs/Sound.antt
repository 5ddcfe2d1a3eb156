-- Nothing is wrong in a plant that is made: each kind of fault is looked for in each section. What the picks leave open
-- is only numbers; names, places and routes are computed, for each count of crudes, vessels and storage tanks.
use Rattle.std.proofs.Common.{◌≡◌, ℕ, ◌%◌, ◌<◌, ◌≤◌, true, List, [], length, refl, ap, arith}
use Rattle.std.specs.Prelude.{pos, ◌==◌, int_le, nat_le, nat_lt}
use Rattle.std.specs.List.{list_all}
use Rattle.std.proofs.lemmas.Bool.Decides.{nat_tests}
use Rattle.std.proofs.lemmas.Int.{ints}
use Rattle.std.proofs.lemmas.List.FromFn.{length-map-range_with_len}
use Rattle.limits.specs.declared.TheConstants.{MOST_HORIZON, MOST_PROPERTY, MOST_VOLUME}
use Rattle.plant_model.specs.declared.parts.Pair.{Pair}
use Rattle.plant_model.specs.declared.parts.VesselPart.{VesselPart}
use Rattle.plant_model.specs.declared.parts.TankPart.{TankPart}
use Rattle.plant_model.specs.declared.place.Section.{Section}
use Rattle.plant_model.specs.declared.place.Section.TheVariants.{Vessels, Storage, Charging}
use Rattle.plant_model.specs.Parts.{kind_named, arrival_named, place_by_name_of, places_of, place_names_of}
use Rattle.plant_model.specs.Faults.{faults_of, entry_faults, is_within, total_of, count_faults, margin_faults, property_count_faults, property_faults, amount_count_faults, amount_faults, level_faults, first_level_faults, demand_faults, all_name_faults, all_repeat_faults, crude_faults, all_amount_faults, all_arrival_faults, level_and_demand_faults, operation_faults, berth_faults, demurrage_faults, berthing_faults, IsSound}
use Rattle.plant_maker.specs.Choices.{Choices, choices_of}
use Rattle.plant_maker.specs.Made.{storage_name, charging_name, pair, only, made_crude, made_vessel, made_storage, made_charging, tank, unload, transfer, charge, entries, parts_of, made_parts}
use Rattle.plant_maker.proofs.EntryFaults.{none_of, both_none, no_entry}
use Rattle.plant_maker.proofs.Chosen.{choices_in_range, within, with_counts, place_cases, crude_cases, one_of_crudes, IsInRange}

-- ---- names

names_at : (choices : Choices) (m v s : ℕ) → 2 ≤ m → m ≤ 4 → 1 ≤ v → v ≤ 3 → 2 ≤ s → s ≤ 3
    → all_name_faults (parts_of (with_counts choices m v s)) ≡ []
unfolding all_name_faults parts_of made_crude made_vessel made_storage made_charging unload transfer charge
names_at choices m v s lm hm =
    crude_cases (λ m. (v s : ℕ) → 1 ≤ v → v ≤ 3 → 2 ≤ s → s ≤ 3 → all_name_faults (parts_of (with_counts choices m v s)) ≡ [])
    (place_cases (λ v s. all_name_faults (parts_of (with_counts choices 2 v s)) ≡ []) refl refl refl refl refl refl)
    (place_cases (λ v s. all_name_faults (parts_of (with_counts choices 3 v s)) ≡ []) refl refl refl refl refl refl)
    (place_cases (λ v s. all_name_faults (parts_of (with_counts choices 4 v s)) ≡ []) refl refl refl refl refl refl)
    m lm hm v s

repeats_at : (choices : Choices) (m v s : ℕ) → 2 ≤ m → m ≤ 4 → 1 ≤ v → v ≤ 3 → 2 ≤ s → s ≤ 3
    → all_repeat_faults (parts_of (with_counts choices m v s)) ≡ []
unfolding all_repeat_faults parts_of made_crude made_vessel made_storage made_charging unload transfer charge place_names_of
repeats_at choices m v s lm hm =
    crude_cases (λ m. (v s : ℕ) → 1 ≤ v → v ≤ 3 → 2 ≤ s → s ≤ 3 → all_repeat_faults (parts_of (with_counts choices m v s)) ≡ [])
    (place_cases (λ v s. all_repeat_faults (parts_of (with_counts choices 2 v s)) ≡ []) refl refl refl refl refl refl)
    (place_cases (λ v s. all_repeat_faults (parts_of (with_counts choices 3 v s)) ≡ []) refl refl refl refl refl refl)
    (place_cases (λ v s. all_repeat_faults (parts_of (with_counts choices 4 v s)) ≡ []) refl refl refl refl refl refl)
    m lm hm v s

-- ---- the horizon and the counts

counts_at : (choices : Choices) → 7200 ≤ choices.horizon → choices.horizon ≤ 14400 → (m v s : ℕ) → 2 ≤ m → m ≤ 4 → 1 ≤ v → v ≤ 3 → 2 ≤ s → s ≤ 3
    → count_faults (parts_of (with_counts choices m v s)) ≡ []
unfolding count_faults parts_of
counts_at choices least most m v s lm hm =
    let fits : is_within (pos 1) (pos MOST_HORIZON) (pos choices.horizon) ≡ true = within 1 choices.horizon MOST_HORIZON (omega arith) (omega arith) in
    crude_cases (λ m. (v s : ℕ) → 1 ≤ v → v ≤ 3 → 2 ≤ s → s ≤ 3 → count_faults (parts_of (with_counts choices m v s)) ≡ [])
    (place_cases (λ v s. count_faults (parts_of (with_counts choices 2 v s)) ≡ []) (rw fits) (rw fits) (rw fits) (rw fits) (rw fits) (rw fits))
    (place_cases (λ v s. count_faults (parts_of (with_counts choices 3 v s)) ≡ []) (rw fits) (rw fits) (rw fits) (rw fits) (rw fits) (rw fits))
    (place_cases (λ v s. count_faults (parts_of (with_counts choices 4 v s)) ≡ []) (rw fits) (rw fits) (rw fits) (rw fits) (rw fits) (rw fits))
    m lm hm v s

-- ---- crudes

no_crude_faults : (choices : Choices) → IsInRange choices → crude_faults (parts_of choices) ≡ []
unfolding crude_faults parts_of made_crude
no_crude_faults choices range =
    both_none _ _
    (both_none _ _
    (no_entry margin_faults (made_crude choices) choices.crudes
    (λ c index small. none_of _ _ (let least : choices.margin c ≤ 20 = range.margin c in grind (arith, ints))))
    (no_entry (property_count_faults 1) (made_crude choices) choices.crudes (λ c index small. refl)))
    (no_entry property_faults (made_crude choices) choices.crudes
    (λ c index small. let fits : is_within (pos 0) (pos MOST_PROPERTY) (pos (choices.sulphur c)) ≡ true =
    (let most = range.sulphur c in within 0 (choices.sulphur c) MOST_PROPERTY (omega arith) (omega arith)) in rw fits))

-- ---- what vessels and tanks hold

-- an amount of one crude alone: as many amounts as crudes, each of them and their total small
record IsSmall (m c amount : ℕ) : Type 0 where
  each_crude : length (only m c (pos amount)) ≡ m
  each_small : list_all (is_within (pos 0) (pos MOST_VOLUME)) (only m c (pos amount)) ≡ true
  total : total_of (only m c (pos amount)) ≡ pos amount

is_small : (amount : ℕ) → amount ≤ MOST_VOLUME → (m c : ℕ) → 2 ≤ m → m ≤ 4 → c < m → IsSmall m c amount
is_small amount most =
    let fits : is_within (pos 0) (pos MOST_VOLUME) (pos amount) ≡ true = within 0 amount MOST_VOLUME (omega arith) most in
    one_of_crudes (λ m c. IsSmall m c amount)
    (record { each_crude = refl; each_small = rw fits; total = ap pos (omega arith) })
    (record { each_crude = refl; each_small = rw fits; total = ap pos (omega arith) })
    (record { each_crude = refl; each_small = rw fits; total = ap pos (omega arith) })
    (record { each_crude = refl; each_small = rw fits; total = ap pos (omega arith) })
    (record { each_crude = refl; each_small = rw fits; total = ap pos (omega arith) })
    (record { each_crude = refl; each_small = rw fits; total = ap pos (omega arith) })
    (record { each_crude = refl; each_small = rw fits; total = ap pos (omega arith) })
    (record { each_crude = refl; each_small = rw fits; total = ap pos (omega arith) })
    (record { each_crude = refl; each_small = rw fits; total = ap pos (omega arith) })

amounts_for_crudes : (choices : Choices) (section : Section) (index m c amount : ℕ) → IsSmall m c amount
    → amount_count_faults (length (entries (made_crude choices) m)) section index (only m c (pos amount)) ≡ []
amounts_for_crudes choices section index m c amount small =
    let counted : length (entries (made_crude choices) m) ≡ m = length-map-range_with_len (made_crude choices) 0 m in
    let same : (length (only m c (pos amount)) == length (entries (made_crude choices) m)) ≡ true = (let each = small.each_crude in grind (arith, nat_tests)) in
    none_of _ _ same

amounts_in_range : (section : Section) (index m c amount : ℕ) → amount ≤ MOST_VOLUME → IsSmall m c amount
    → amount_faults section index (only m c (pos amount)) ≡ []
amounts_in_range section index m c amount most small =
    let fits : int_le (total_of (only m c (pos amount))) (pos MOST_VOLUME) ≡ true = rw small.total (grind (arith, nat_tests)) in
    none_of _ _ (rw (small.each_small, fits))

cargo_is_small : (choices : Choices) → IsInRange choices → (v : ℕ) → IsSmall choices.crudes (v % choices.crudes) (choices.cargo v)
cargo_is_small choices range v =
    let most = range.cargo v in
    is_small (choices.cargo v) (omega arith) choices.crudes (v % choices.crudes) range.least_crudes range.most_crudes (omega arith)

stock_is_small : (choices : Choices) → IsInRange choices → (s : ℕ) → IsSmall choices.crudes (s % choices.crudes) (choices.stock s)
stock_is_small choices range s =
    let most = range.stock s in
    is_small (choices.stock s) (omega arith) choices.crudes (s % choices.crudes) range.least_crudes range.most_crudes (omega arith)

charging_is_small : (choices : Choices) → IsInRange choices → (c : ℕ) → c < 2 → IsSmall choices.crudes c 100000
charging_is_small choices range c within =
    is_small 100000 (omega arith) choices.crudes c range.least_crudes range.most_crudes (omega arith)

no_amount_faults : (choices : Choices) → IsInRange choices → all_amount_faults (parts_of choices) ≡ []
unfolding all_amount_faults parts_of made_vessel made_storage made_charging
no_amount_faults choices range =
    let count = length (entries (made_crude choices) choices.crudes) in
    both_none _ _
    (both_none _ _
    (both_none _ _
    (no_entry (λ index (vessel : VesselPart). amount_count_faults count Vessels index vessel.amounts) (made_vessel choices) choices.vessels
    (λ v index within. amounts_for_crudes choices Vessels index _ _ _ (cargo_is_small choices range v)))
    (no_entry (λ index (tank : TankPart). amount_count_faults count Storage index tank.amounts) (made_storage choices) choices.storage
    (λ s index within. amounts_for_crudes choices Storage index _ _ _ (stock_is_small choices range s))))
    (no_entry (λ index (tank : TankPart). amount_count_faults count Charging index tank.amounts) (made_charging choices) 2
    (λ c index within. amounts_for_crudes choices Charging index _ _ _ (charging_is_small choices range c within))))
    (both_none _ _
    (both_none _ _
    (no_entry (λ index (vessel : VesselPart). amount_faults Vessels index vessel.amounts) (made_vessel choices) choices.vessels
    (λ v index within. let most = range.cargo v in amounts_in_range Vessels index _ _ _ (omega arith) (cargo_is_small choices range v)))
    (no_entry (λ index (tank : TankPart). amount_faults Storage index tank.amounts) (made_storage choices) choices.storage
    (λ s index within. let most = range.stock s in amounts_in_range Storage index _ _ _ (omega arith) (stock_is_small choices range s))))
    (no_entry (λ index (tank : TankPart). amount_faults Charging index tank.amounts) (made_charging choices) 2
    (λ c index within. amounts_in_range Charging index _ _ _ (omega arith) (charging_is_small choices range c within))))

-- ---- levels, demands and charges

level_in_range : (section : Section) (index m c amount : ℕ) (name : List ℕ) (demand : Pair) → amount ≤ 1000000 → IsSmall m c amount
    → first_level_faults section index (tank name (only m c (pos amount)) demand) ≡ []
level_in_range section index m c amount name demand most small =
    let fits : is_within (pos 0) (pos 1000000) (total_of (only m c (pos amount))) ≡ true =
    rw small.total (within 0 amount 1000000 (omega arith) most) in
    none_of _ _ fits

no_level_faults : (choices : Choices) → IsInRange choices → level_and_demand_faults (parts_of choices) ≡ []
unfolding level_and_demand_faults parts_of made_storage made_charging
no_level_faults choices range =
    both_none _ _
    (both_none _ _
    (both_none _ _
    (both_none _ _
    (both_none _ _
    (no_entry (level_faults Storage) (made_storage choices) choices.storage (λ s index within. refl))
    (no_entry (level_faults Charging) (made_charging choices) 2 (λ c index within. refl)))
    (no_entry (first_level_faults Storage) (made_storage choices) choices.storage
    (λ s index within. let most = range.stock s in
    level_in_range Storage index _ _ _ (storage_name s) (pair 0 0) (omega arith) (stock_is_small choices range s))))
    (no_entry (first_level_faults Charging) (made_charging choices) 2
    (λ c index within. level_in_range Charging index _ _ _ (charging_name c) (pair 0 MOST_VOLUME) (omega arith) (charging_is_small choices range c within))))
    (no_entry demand_faults (made_charging choices) 2 (λ c index within. refl)))
    refl

-- ---- berths and demurrage

no_berthing_faults : (choices : Choices) → berthing_faults (parts_of choices) ≡ []
unfolding berthing_faults parts_of made_vessel
no_berthing_faults choices =
    both_none _ _
    (no_entry berth_faults (made_vessel choices) choices.vessels (λ v index within. refl))
    (no_entry demurrage_faults (made_vessel choices) choices.vessels (λ v index within. refl))

-- ---- arrivals

arrivals_at : (choices : Choices) → 7200 ≤ choices.horizon → (v s : ℕ) → 1 ≤ v → v ≤ 3 → 2 ≤ s → s ≤ 3
    → all_arrival_faults (parts_of (with_counts choices choices.crudes v s)) ≡ []
unfolding all_arrival_faults parts_of made_vessel
arrivals_at choices least =
    let first : nat_le 0 choices.horizon ≡ true = grind (arith, nat_tests) in
    let second : nat_le 1440 choices.horizon ≡ true = grind (arith, nat_tests) in
    let third : nat_le 2880 choices.horizon ≡ true = grind (arith, nat_tests) in
    place_cases (λ v s. all_arrival_faults (parts_of (with_counts choices choices.crudes v s)) ≡ [])
    (simp (first, second, third)) (simp (first, second, third)) (simp (first, second, third))
    (simp (first, second, third)) (simp (first, second, third)) (simp (first, second, third))

-- ---- operations

operations_at : (choices : Choices) → 7200 ≤ choices.horizon → (v s : ℕ) → 1 ≤ v → v ≤ 3 → 2 ≤ s → s ≤ 3
    → operation_faults (parts_of (with_counts choices choices.crudes v s)) ≡ []
unfolding operation_faults parts_of made_vessel made_storage made_charging unload transfer charge place_names_of places_of place_by_name_of kind_named
    arrival_named
operations_at choices least =
    let first : nat_lt 0 choices.horizon ≡ true = grind (arith, nat_tests) in
    let second : nat_lt 1440 choices.horizon ≡ true = grind (arith, nat_tests) in
    let third : nat_lt 2880 choices.horizon ≡ true = grind (arith, nat_tests) in
    let end : nat_le choices.horizon choices.horizon ≡ true = grind (arith, nat_tests) in
    place_cases (λ v s. operation_faults (parts_of (with_counts choices choices.crudes v s)) ≡ [])
    (simp (first, second, third, end)) (simp (first, second, third, end)) (simp (first, second, third, end))
    (simp (first, second, third, end)) (simp (first, second, third, end)) (simp (first, second, third, end))

-- ---- all of them

entries_are_sound : (choices : Choices) → IsInRange choices → entry_faults (parts_of choices) ≡ []
unfolding entry_faults
entries_are_sound choices range =
    both_none _ _
    (both_none _ _
    (both_none _ _
    (both_none _ _
    (both_none _ _
    (both_none _ _
    (both_none _ _
    (names_at choices choices.crudes choices.vessels choices.storage range.least_crudes range.most_crudes range.least_vessels range.most_vessels
    range.least_storage range.most_storage)
    (repeats_at choices choices.crudes choices.vessels choices.storage range.least_crudes range.most_crudes range.least_vessels range.most_vessels
    range.least_storage range.most_storage))
    (no_crude_faults choices range))
    (no_amount_faults choices range))
    (arrivals_at choices range.least_horizon choices.vessels choices.storage range.least_vessels range.most_vessels range.least_storage
    range.most_storage))
    (no_level_faults choices range))
    (operations_at choices range.least_horizon choices.vessels choices.storage range.least_vessels range.most_vessels range.least_storage
    range.most_storage))
    (no_berthing_faults choices)

-- whatever is chosen in range makes a plant in which nothing is wrong
pub chosen_plant_is_sound : (choices : Choices) → IsInRange choices → IsSound (parts_of choices)
unfolding faults_of
chosen_plant_is_sound choices range =
    both_none _ _
    (counts_at choices range.least_horizon range.most_horizon choices.crudes choices.vessels choices.storage range.least_crudes range.most_crudes
    range.least_vessels range.most_vessels range.least_storage range.most_storage)
    (entries_are_sound choices range)

pub made_plants_are_sound : (number : ℕ) → IsSound (made_parts number)
made_plants_are_sound number = chosen_plant_is_sound (choices_of number) (choices_in_range number)
