-- Which names of rows on places and crudes are names of a plant and of forms of n slots. Numbers that a family does
-- not have are 0.
use Rattle.std.specs.Prelude.{ℕ, Bool, ◌&&◌, ◌||◌, ◌==◌, nat_lt, nat_le, not}
use Rattle.slot_box.specs.declared.term.RowName.{RowName}
use Rattle.plant_model.specs.declared.parts.Parts.{Parts}
use Rattle.plant_model.specs.Parts.{place_count_of, place_of, op_count_of, op_of, crude_count_of, property_count_of}
use Rattle.plant_model.specs.Relations.{is_charge}
use Rattle.replay_core.specs.Rules.{is_vessel, is_charging, is_unit}

-- a slot of these forms
abbrev pub is_slot : ℕ → ℕ → Bool
is_slot n slot = nat_lt 0 slot && nat_le slot n

-- the first side of a row or the second
abbrev pub is_side : ℕ → Bool
is_side side = nat_lt side 2

-- a place of the plant
abbrev pub is_place : Parts → ℕ → Bool
is_place parts p = nat_lt p (place_count_of parts)

-- 5, total of a tank: a place that holds crude, a slot and a side, of which a vessel has the first alone
abbrev pub is_total_name : Parts → ℕ → RowName → Bool
is_total_name parts n name =
    is_place parts name.a && is_slot n name.b && is_side name.c && name.d == 0
    && not (is_unit (place_of parts name.a).kind) && (name.c == 0 || not (is_vessel (place_of parts name.a).kind))

-- 6, amount of a crude: a place that holds crude, a slot and a crude
abbrev pub is_amount_name : Parts → ℕ → RowName → Bool
is_amount_name parts n name =
    is_place parts name.a && is_slot n name.b && nat_lt name.c (crude_count_of parts) && name.d == 0
    && not (is_unit (place_of parts name.a).kind)

-- 7, limit on a property: a slot, a charge, a property and a side
abbrev pub is_limit_name : Parts → ℕ → RowName → Bool
is_limit_name parts n name =
    is_slot n name.a && nat_lt name.b (op_count_of parts) && nat_lt name.c (property_count_of parts) && is_side name.d
    && is_charge (op_of parts name.b).kind

-- a place and a side
abbrev pub is_sided_place : Parts → RowName → Bool
is_sided_place parts name = is_place parts name.a && is_side name.b && name.c == 0 && name.d == 0

-- 9, demand: a charging tank and a side
abbrev pub is_demand_name : Parts → RowName → Bool
is_demand_name parts name = is_sided_place parts name && is_charging (place_of parts name.a).kind

-- 10, emptied vessel: a vessel and a crude
abbrev pub is_emptied_name : Parts → RowName → Bool
is_emptied_name parts name =
    is_place parts name.a && nat_lt name.b (crude_count_of parts) && name.c == 0 && name.d == 0
    && is_vessel (place_of parts name.a).kind

-- 11, minutes of a continuous unit: that unit and a side
abbrev pub is_minutes_name : Parts → RowName → Bool
is_minutes_name parts name =
    is_sided_place parts name && is_unit (place_of parts name.a).kind && (place_of parts name.a).continuous

-- 12, charges of a unit: a unit and a side
abbrev pub is_charges_name : Parts → RowName → Bool
is_charges_name parts name = is_sided_place parts name && is_unit (place_of parts name.a).kind

-- 16, wait of a vessel: a vessel and a slot
abbrev pub is_wait_name : Parts → ℕ → RowName → Bool
is_wait_name parts n name =
    is_place parts name.a && is_slot n name.b && name.c == 0 && name.d == 0 && is_vessel (place_of parts name.a).kind
