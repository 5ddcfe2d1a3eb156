-- The rules of a legal plan, one test each. A rule on an operation is asked where others have run before it, of these
-- others or of the state that they leave.
use Rattle.std.specs.Prelude.{ℕ, ◌+◌, ◌-◌, ◌*◌, Bool, true, false, not, ◌&&◌, ◌||◌, ◌==◌, nat_lt, nat_le, List, fold, sum, slice_index}
use Rattle.std.specs.List.{list_all, range_with_len}
use Rattle.number_laws.specs.Sums.{sum_below}
use Rattle.plant_model.specs.declared.parts.Parts.{Parts}
use Rattle.plant_model.specs.declared.details.PlaceInfo.{PlaceInfo}
use Rattle.plant_model.specs.declared.details.PlaceKind.{PlaceKind}
use Rattle.plant_model.specs.declared.details.PlaceKind.TheVariants.{Vessel, Storage, Charging, Unit as DistillationUnit}
use Rattle.plant_model.specs.Parts.{horizon_of, crude_count_of, property_count_of, op_count_of, op_of, place_of, property_of, limit_of}
use Rattle.plant_model.specs.Relations.{share_berth, is_charge, refused_at_once_of, ordered_of}
use Rattle.replay_core.specs.declared.timed.Timed.{Timed}
use Rattle.replay_core.specs.declared.order.Order.{Order}
use Rattle.replay_core.specs.declared.order.Order.TheVariants.{ByStart, BySlot}
use Rattle.replay_core.specs.State.{held_of, drawn_of}
use Rattle.replay_core.specs.Counts.{charges_of, minutes_of, charged_of}

-- the number lies in the range, its ends among it
abbrev pub is_inside : ℕ × ℕ → ℕ → Bool
is_inside range n = nat_le range.0 n && nat_le n range.1

-- the place is a vessel
abbrev pub is_vessel : PlaceKind → Bool
is_vessel Vessel = true
is_vessel Storage = false
is_vessel Charging = false
is_vessel DistillationUnit = false

-- the place is a charging tank
abbrev pub is_charging : PlaceKind → Bool
is_charging Vessel = false
is_charging Storage = false
is_charging Charging = true
is_charging DistillationUnit = false

-- the place is a distillation unit
abbrev pub is_unit : PlaceKind → Bool
is_unit Vessel = false
is_unit Storage = false
is_unit Charging = false
is_unit DistillationUnit = true

-- ---- of the operation alone

-- 1: the plant has the operation
unfoldable pub is_known : Parts → Timed → Bool
is_known parts t = nat_lt t.op (op_count_of parts)

-- 2: it takes time
unfoldable pub lasts : Timed → Bool
lasts t = nat_lt t.start t.end

-- 3: it starts and ends in its window
unfoldable pub keeps_window : Parts → Timed → Bool
keeps_window parts t = is_inside (op_of parts t.op).window t.start && is_inside (op_of parts t.op).window t.end

-- 4: its volume is one that it may have
unfoldable pub keeps_volume : Parts → Timed → Bool
keeps_volume parts t = is_inside (op_of parts t.op).volume t.volume

-- 5: it runs neither too slowly nor too fast; rates are for each 1440 minutes
unfoldable pub meets_rate : Parts → Timed → Bool
meets_rate parts t =
    let rate = (op_of parts t.op).rate in
    let minutes = t.end - t.start in
    is_inside (rate.0 * minutes, rate.1 * minutes) (1440 * t.volume)

-- ---- of the operation and those before it

-- when the last of the operations starts, and 0 where there is none
unfoldable pub last_start : List Timed → ℕ
last_start before = fold (λ _ (s : Timed). s.start) 0 before

-- it starts no earlier than the one before
unfoldable pub starts_in_order : List Timed → Timed → Bool
starts_in_order before t = nat_le (last_start before) t.start

-- it starts no earlier than any of those before with which it may not change places
unfoldable pub starts_after_ordered : Parts → List Timed → Timed → Bool
starts_after_ordered parts before t =
    list_all (λ (s : Timed). not (ordered_of parts s.op t.op) || nat_le s.start t.start) before

-- 6: it keeps the order that is asked for
abbrev pub keeps_order : Parts → Order → List Timed → Timed → Bool
keeps_order parts ByStart before t = starts_in_order before t
keeps_order parts BySlot before t = starts_after_ordered parts before t

-- 7: whatever may not run beside it has ended
unfoldable pub waits_for_others : Parts → List Timed → Timed → Bool
waits_for_others parts before t =
    list_all (λ (s : Timed). not (refused_at_once_of parts s.op t.op) || nat_le s.end t.start) before

-- both unload vessels of one berth, and the first one's stands later in the list
unfoldable pub unloads_later_vessel : Parts → ℕ → ℕ → Bool
unloads_later_vessel parts v w = share_berth parts (op_of parts v) (op_of parts w)
    && nat_lt (op_of parts w).from (op_of parts v).from

-- 8: the vessels of a berth unload in the order of their list
unfoldable pub keeps_vessel_order : Parts → List Timed → Timed → Bool
keeps_vessel_order parts before t = list_all (λ (s : Timed). not (unloads_later_vessel parts s.op t.op)) before

-- ---- of the operation and the state before it

-- 9: its source holds the volume above its minimum
unfoldable pub leaves_minimum : Parts → List (List ℕ) → Timed → Bool
leaves_minimum parts state t =
    let source = (op_of parts t.op).from in
    nat_le ((place_of parts source).min + t.volume) (sum (held_of state source))

-- 10: the tank that it fills has room for the volume below its maximum
unfoldable pub keeps_maximum : Parts → List (List ℕ) → Timed → Bool
keeps_maximum parts state t =
    let target = (op_of parts t.op).to in
    is_unit (place_of parts target).kind || nat_le (sum (held_of state target) + t.volume) (place_of parts target).max

-- what the amounts hold of property k in all
unfoldable pub content_of : Parts → ℕ → List ℕ → ℕ
content_of parts k amounts = sum_below (crude_count_of parts) (λ c. property_of parts c k * slice_index amounts c)

-- property k of what is drawn lies within the limits of the charge, for the volume as a whole
unfoldable pub meets_limit : Parts → ℕ → ℕ → List ℕ → ℕ → Bool
meets_limit parts v volume drawn k =
    let limit = limit_of parts v k in
    is_inside (limit.0 * volume, limit.1 * volume) (content_of parts k drawn)

-- 11: what a charge draws has each property within the limits of that charge
unfoldable pub meets_limits : Parts → List (List ℕ) → Timed → Bool
meets_limits parts state t =
    not (is_charge (op_of parts t.op).kind)
    || list_all (meets_limit parts t.op t.volume (drawn_of parts state t)) (range_with_len 0 (property_count_of parts))

-- ---- of a place, once all has run

-- 12: a vessel is empty
unfoldable pub is_emptied : List (List ℕ) → ℕ → PlaceInfo → Bool
is_emptied state p place = not (is_vessel place.kind) || sum (held_of state p) == 0

-- 13: what was charged from a charging tank is what is demanded of it
unfoldable pub meets_demand : Parts → List Timed → ℕ → PlaceInfo → Bool
meets_demand parts plan p place = not (is_charging place.kind) || is_inside place.demand (charged_of parts plan p)

-- 14: a continuous unit was charged at every minute, and each unit as often as it takes
unfoldable pub meets_charges : Parts → List Timed → ℕ → PlaceInfo → Bool
meets_charges parts plan p place =
    not (is_unit place.kind)
    || (not place.continuous || minutes_of parts plan p == horizon_of parts)
    && is_inside place.charges (charges_of parts plan p)
