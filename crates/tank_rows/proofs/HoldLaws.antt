-- Each row of a name holds, family by family.
use Rattle.std.proofs.Common.{◌≡◌, ℕ, zero, suc, ◌<◌, ◌≤◌, Bool, true, false, List, length, sym, subst, refl, arith}
use Rattle.std.specs.Prelude.{◌||◌, not, ◌==◌, nat_lt, if◌then◌else◌, Option, None, Some}
use Rattle.std.specs.Option.{option_map}
use Rattle.std.proofs.lemmas.Bool.{and_parts}
use Rattle.std.proofs.lemmas.Bool.Decides.{nat_tests}
use Rattle.linear_form.specs.Points.{IsMet}
use Rattle.linear_form.specs.Rows.{RowForm}
use Rattle.plant_model.specs.declared.parts.Parts.{Parts}
use Rattle.plant_model.specs.declared.details.OpKind.{OpKind}
use Rattle.plant_model.specs.declared.details.OpKind.TheVariants.{Unload, Transfer, Charge}
use Rattle.plant_model.specs.declared.details.PlaceKind.{PlaceKind}
use Rattle.plant_model.specs.declared.details.PlaceKind.TheVariants.{Vessel, Storage, Charging, Unit as DistillationUnit}
use Rattle.plant_model.specs.Parts.{place_count_of, place_of, op_count_of, op_of, crude_count_of, property_count_of}
use Rattle.plant_model.specs.Relations.{is_charge}
use Rattle.plant_model.specs.Sound.{SoundPlant, HoldsCrude}
use Rattle.plant_model.proofs.PlantIsSound.{vessels_come_first}
use Rattle.replay_core.specs.declared.order.Order.{Order}
use Rattle.replay_core.specs.declared.timed.Timed.{Timed}
use Rattle.replay_core.specs.Legal.{IsLegalIn}
use Rattle.replay_core.specs.Rules.{is_vessel, is_charging, is_unit}
use Rattle.replay_core.proofs.StepLaws.{CanRun-legal}
use Rattle.row_forms.specs.declared.piece.Inequality.{Inequality}
use Rattle.row_forms.specs.Numbers.{numbers_of}
use Rattle.row_forms.specs.Terms.{row_of}
use Rattle.row_forms.proofs.RunLaws.{fits-run}
use Rattle.row_forms.proofs.ValueLaws.{rows_hold_by_pieces}
use Rattle.slot_box.specs.declared.term.RowName.{RowName}
use Rattle.word_flows.specs.Levels.{is_tank}
use Rattle.word_flows.proofs.EndLaws.{legal_words_end_well}
use Rattle.tank_rows.specs.Families.{total_row, amount_row, limit_row, demand_row, emptied_row, minutes_row, charges_row, wait_row}
use Rattle.tank_rows.specs.Laws.{TankRowsHold}
use Rattle.tank_rows.specs.Names.{is_slot, is_side, is_place, is_total_name, is_amount_name, is_limit_name, is_sided_place, is_demand_name, is_emptied_name, is_minutes_name, is_charges_name, is_wait_name}
use Rattle.tank_rows.specs.TankRows.{tank_inequality}
use Rattle.tank_rows.proofs.FlowLaws.{Holds, IsWord}
use Rattle.tank_rows.proofs.TankLaws.{total-first, total-second, amount-holds, emptied-holds, demand-first, demand-second}
use Rattle.tank_rows.proofs.UnitLaws.{charges-first, charges-second, minutes-first, minutes-second}
use Rattle.tank_rows.proofs.ChargeLaws.{limit-first, limit-second, wait-holds}

-- ---- kinds by their tests

holds_crude : (kind : PlaceKind) → not (is_unit kind) ≡ true → HoldsCrude kind
holds_crude Vessel is = tt
holds_crude Storage is = tt
holds_crude Charging is = tt
holds_crude DistillationUnit is = (let never : false ≡ true = is in cc)

tank : (kind : PlaceKind) → not (is_unit kind) ≡ true → not (is_vessel kind) ≡ true → is_tank kind ≡ true
tank Vessel holds is = (let never : false ≡ true = is in cc)
tank Storage holds is = refl
tank Charging holds is = refl
tank DistillationUnit holds is = (let never : false ≡ true = holds in cc)

vessel : (kind : PlaceKind) → is_vessel kind ≡ true → kind ≡ Vessel
vessel Vessel is = refl
vessel Storage is = (let never : false ≡ true = is in cc)
vessel Charging is = (let never : false ≡ true = is in cc)
vessel DistillationUnit is = (let never : false ≡ true = is in cc)

charging : (kind : PlaceKind) → is_charging kind ≡ true → kind ≡ Charging
charging Vessel is = (let never : false ≡ true = is in cc)
charging Storage is = (let never : false ≡ true = is in cc)
charging Charging is = refl
charging DistillationUnit is = (let never : false ≡ true = is in cc)

unit : (kind : PlaceKind) → is_unit kind ≡ true → kind ≡ DistillationUnit
unit Vessel is = (let never : false ≡ true = is in cc)
unit Storage is = (let never : false ≡ true = is in cc)
unit Charging is = (let never : false ≡ true = is in cc)
unit DistillationUnit is = refl

charge : (kind : OpKind) → is_charge kind ≡ true → kind ≡ Charge
charge Unload is = (let never : false ≡ true = is in cc)
charge Transfer is = (let never : false ≡ true = is in cc)
charge Charge is = refl

slot-inside : (n slot : ℕ) → is_slot n slot ≡ true → (1 ≤ slot) × (slot ≤ n)
slot-inside n slot is = (grind (arith, nat_tests), grind (arith, nat_tests))

below : (a b : ℕ) → nat_lt a b ≡ true → a < b
below a b is = grind (arith, nat_tests)

asked_second : (a b : Bool) → (a || b) ≡ true → a ≡ false → b ≡ true
asked_second true b is other = (let never : true ≡ false = other in cc)
asked_second false b is other = is

sided_place : (parts : Parts) (name : RowName) → is_sided_place parts name ≡ true → name.a < place_count_of parts
sided_place parts name is =
    let last = and_parts _ (name.d == 0) is in
    let unused = and_parts _ (name.c == 0) last.0 in
    below name.a (place_count_of parts) (and_parts (is_place parts name.a) (is_side name.b) unused.0).0

-- ---- by sides

-- one of two rows, by a test
either : (P : Inequality → Type 0) (b : Bool) (x y : Inequality) → (b ≡ true → P x) → (b ≡ false → P y) → P (if b then x else y)
either P true x y first second = first refl
either P false x y first second = second refl

-- likewise of what may be a row
choose : (P : Option Inequality → Type 0) (b : Bool) (x y : Option Inequality) → (b ≡ true → P x) → (b ≡ false → P y) → P (if b then x else y)
choose P true x y first second = first refl
choose P false x y first second = second refl

-- ---- the row of each family

total-holds : (parts : Parts) (n : ℕ) (word : List Timed) (name : RowName) → IsWord parts n word → is_total_name parts n name ≡ true →
    Holds parts n word (total_row parts name.a name.b name.c)
total-holds parts n word name is named =
    let p = name.a in
    let kind = (place_of parts p).kind in
    let sides = and_parts _ (name.c == 0 || not (is_vessel kind)) named in
    let holding = and_parts _ (not (is_unit kind)) sides.0 in
    let unused = and_parts _ (name.d == 0) holding.0 in
    let sided = and_parts _ (is_side name.c) unused.0 in
    let all = and_parts (is_place parts p) (is_slot n name.b) sided.0 in
    let place = below p (place_count_of parts) all.0 in
    let slot = slot-inside n name.b all.1 in
    let holds = holds_crude kind holding.1 in
    either (Holds parts n word) (name.c == 0) _ _
    (λ first. total-first parts n word p name.b is place holds slot.1)
    (λ second. total-second parts n word p name.b is place holds (tank kind holding.1 (asked_second (name.c == 0) (not (is_vessel kind)) sides.1 second)) slot.1)

amount_row-holds : (parts : Parts) (n : ℕ) (word : List Timed) (name : RowName) → IsWord parts n word → is_amount_name parts n name ≡ true →
    Holds parts n word (amount_row parts name.a name.b name.c)
amount_row-holds parts n word name is named =
    let p = name.a in
    let holding = and_parts _ (not (is_unit (place_of parts p).kind)) named in
    let unused = and_parts _ (name.d == 0) holding.0 in
    let crudes = and_parts _ (nat_lt name.c (crude_count_of parts)) unused.0 in
    let all = and_parts (is_place parts p) (is_slot n name.b) crudes.0 in
    amount-holds parts n word p name.b name.c is (below p (place_count_of parts) all.0) (holds_crude (place_of parts p).kind holding.1)
    (slot-inside n name.b all.1).1

limit-holds : (parts : Parts) (n : ℕ) (word : List Timed) (name : RowName) → IsWord parts n word → is_limit_name parts n name ≡ true →
    Holds parts n word (limit_row parts name.a name.b name.c name.d)
limit-holds parts n word name is named =
    let charges = and_parts _ (is_charge (op_of parts name.b).kind) named in
    let sides = and_parts _ (is_side name.d) charges.0 in
    let properties = and_parts _ (nat_lt name.c (property_count_of parts)) sides.0 in
    let all = and_parts (is_slot n name.a) (nat_lt name.b (op_count_of parts)) properties.0 in
    let slot = slot-inside n name.a all.0 in
    let known = below name.b (op_count_of parts) all.1 in
    let property = below name.c (property_count_of parts) properties.1 in
    let kind = charge (op_of parts name.b).kind charges.1 in
    by_side name.d (below name.d 2 sides.1) (λ side. Holds parts n word (limit_row parts name.a name.b name.c side))
    (limit-first parts n word name.a name.b name.c is slot.0 slot.1 known kind property)
    (limit-second parts n word name.a name.b name.c is slot.0 slot.1 known kind property)
  where
    by_side : (side : ℕ) → side < 2 → (P : ℕ → Type 0) → P 0 → P 1 → P side
    by_side zero two P first second = first
    by_side (suc zero) two P first second = second
    by_side (suc (suc side)) two P first second = absurd (omega arith)

demand-holds : (parts : Parts) (n : ℕ) (word : List Timed) (name : RowName) → IsWord parts n word → is_demand_name parts name ≡ true →
    Holds parts n word (demand_row parts n name.a name.b)
demand-holds parts n word name is named =
    let p = name.a in
    let all = and_parts (is_sided_place parts name) (is_charging (place_of parts p).kind) named in
    let place = sided_place parts name all.0 in
    let kind = charging (place_of parts p).kind all.1 in
    either (Holds parts n word) (name.b == 0) _ _
    (λ first. demand-first parts n word p is place kind)
    (λ second. demand-second parts n word p is place kind)

emptied_row-holds : (parts : Parts) (n : ℕ) (word : List Timed) (name : RowName) → IsWord parts n word → is_emptied_name parts name ≡ true →
    Holds parts n word (emptied_row parts n name.a name.b)
emptied_row-holds parts n word name is named =
    let p = name.a in
    let kind = (place_of parts p).kind in
    let vessels = and_parts _ (is_vessel kind) named in
    let first = and_parts _ (name.d == 0) vessels.0 in
    let second = and_parts _ (name.c == 0) first.0 in
    let all = and_parts (is_place parts p) (nat_lt name.b (crude_count_of parts)) second.0 in
    let is_a_vessel = vessel kind vessels.1 in
    emptied-holds parts n word p name.b is (below p (place_count_of parts) all.0) (subst HoldsCrude (sym is_a_vessel) tt) is_a_vessel

minutes-holds : (parts : Parts) (n : ℕ) (word : List Timed) (name : RowName) → IsWord parts n word → is_minutes_name parts name ≡ true →
    Holds parts n word (minutes_row parts n name.a name.b)
minutes-holds parts n word name is named =
    let p = name.a in
    let kinds = and_parts _ (place_of parts p).continuous named in
    let all = and_parts (is_sided_place parts name) (is_unit (place_of parts p).kind) kinds.0 in
    let place = sided_place parts name all.0 in
    let kind = unit (place_of parts p).kind all.1 in
    either (Holds parts n word) (name.b == 0) _ _
    (λ first. minutes-first parts n word p is place kind kinds.1)
    (λ second. minutes-second parts n word p is place kind kinds.1)

charges-hold : (parts : Parts) (n : ℕ) (word : List Timed) (name : RowName) → IsWord parts n word → is_charges_name parts name ≡ true →
    Holds parts n word (charges_row parts n name.a name.b)
charges-hold parts n word name is named =
    let p = name.a in
    let all = and_parts (is_sided_place parts name) (is_unit (place_of parts p).kind) named in
    let place = sided_place parts name all.0 in
    let kind = unit (place_of parts p).kind all.1 in
    either (Holds parts n word) (name.b == 0) _ _
    (λ first. charges-first parts n word p is place kind)
    (λ second. charges-second parts n word p is place kind)

wait_row-holds : (parts : Parts) (n : ℕ) (word : List Timed) (name : RowName) → IsWord parts n word → is_wait_name parts n name ≡ true →
    Holds parts n word (wait_row parts name.a name.b)
wait_row-holds parts n word name is named =
    let p = name.a in
    let vessels = and_parts _ (is_vessel (place_of parts p).kind) named in
    let first = and_parts _ (name.d == 0) vessels.0 in
    let second = and_parts _ (name.c == 0) first.0 in
    let all = and_parts (is_place parts p) (is_slot n name.b) second.0 in
    let slot = slot-inside n name.b all.1 in
    let kind = vessel (place_of parts p).kind vessels.1 in
    let there = vessels_come_first parts p (below p (place_count_of parts) all.0) kind in
    wait-holds parts n word p name.b is there kind slot.0 slot.1

-- ---- the row of a name

-- what may be a row holds where it is one
abbrev HoldsIfSome : Parts → ℕ → List Timed → Option Inequality → Type 0
HoldsIfSome parts n word given = (row : Inequality) → given ≡ Some row → Holds parts n word row

some-same : (x y : Inequality) → Some x ≡ Some y → x ≡ y
some-same x y is = cc

given-holds : (parts : Parts) (n : ℕ) (word : List Timed) (is : Bool) (row : Inequality) → (is ≡ true → Holds parts n word row) →
    HoldsIfSome parts n word (if is then Some row else None)
given-holds parts n word true row holds other same = subst (Holds parts n word) (some-same row other same) (holds refl)
given-holds parts n word false row holds other same = cc

inequality-holds : (parts : Parts) (n : ℕ) (word : List Timed) (name : RowName) → IsWord parts n word → HoldsIfSome parts n word (tank_inequality parts n name)
unfolding tank_inequality
inequality-holds parts n word name is =
    let P = HoldsIfSome parts n word in
    choose P (name.family == 5) _ _ (λ _. given-holds parts n word (is_total_name parts n name) _ (total-holds parts n word name is))
    (λ _. choose P (name.family == 6) _ _ (λ _. given-holds parts n word (is_amount_name parts n name) _ (amount_row-holds parts n word name is))
    (λ _. choose P (name.family == 7) _ _ (λ _. given-holds parts n word (is_limit_name parts n name) _ (limit-holds parts n word name is))
    (λ _. choose P (name.family == 9) _ _ (λ _. given-holds parts n word (is_demand_name parts name) _ (demand-holds parts n word name is))
    (λ _. choose P (name.family == 10) _ _ (λ _. given-holds parts n word (is_emptied_name parts name) _ (emptied_row-holds parts n word name is))
    (λ _. choose P (name.family == 11) _ _ (λ _. given-holds parts n word (is_minutes_name parts name) _ (minutes-holds parts n word name is))
    (λ _. choose P (name.family == 12) _ _ (λ _. given-holds parts n word (is_charges_name parts name) _ (charges-hold parts n word name is))
    (λ _. choose P (name.family == 16) _ _ (λ _. given-holds parts n word (is_wait_name parts n name) _ (wait_row-holds parts n word name is))
    (λ _ row same. cc))))))))

-- ---- all of them

is_word : (parts : Parts) (order : Order) (n : ℕ) (word : List Timed) → SoundPlant parts → IsLegalIn parts order word → length word ≤ n → IsWord parts n word
is_word parts order n word sound legal short =
    let well = legal_words_end_well parts order word legal in
    record {
      sound = sound;
      run = well.0;
      ends = well.1;
      short = short;
      draws = (fits-run parts order word sound (CanRun-legal parts order word legal)).draws;
    }

-- a row that is given is that of an inequality
row-given : (parts : Parts) (n : ℕ) (given : Option Inequality) (row : RowForm) → option_map (row_of parts n) given ≡ Some row →
    (inequality : Inequality) × (given ≡ Some inequality) × (row_of parts n inequality ≡ row)
row-given parts n None row same = cc
row-given parts n (Some inequality) row same = (inequality, refl, cc)

pub tank_rows_hold : (parts : Parts) → SoundPlant parts → TankRowsHold parts
tank_rows_hold parts sound order word n name row legal short same =
    let found = row-given parts n (tank_inequality parts n name) row same in
    let is = is_word parts order n word sound legal short in
    let holds = inequality-holds parts n word name is found.0 found.1 in
    let met = (rows_hold_by_pieces parts sound order word n found.0 (CanRun-legal parts order word legal)).1 holds in
    subst (IsMet (numbers_of parts word)) found.2 met
