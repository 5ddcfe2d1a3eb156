-- Which quality cuts a plant has.
use Rattle.std.specs.Prelude.{ℕ, Bool, ◌&&◌, ◌||◌, ◌==◌, nat_lt, nat_le, not, ℤ, pos, unsigned_abs, slice_index_or}
use Rattle.std.specs.Int.{bit_at}
use Rattle.std.specs.List.{list_all, range_with_len}
use Rattle.limits.specs.declared.TheConstants.{MOST_CRUDES, MOST_CUT_DENOMINATOR, MOST_CUT_WEIGHT}
use Rattle.plant_model.specs.declared.parts.Parts.{Parts}
use Rattle.plant_model.specs.Parts.{natural, crude_count_of, place_count_of, place_of}
use Rattle.replay_core.specs.Rules.{is_unit}
use Rattle.slot_box.specs.declared.cut.CutParams.{CutParams}

-- place p is in the cut's set
abbrev pub is_inside : CutParams → ℕ → Bool
is_inside cut p = bit_at cut.places p == 1

-- a place that holds crude
abbrev pub is_stock : Parts → ℕ → Bool
is_stock parts p = nat_lt p (place_count_of parts) && not (is_unit (place_of parts p).kind)

-- place p is not in the set, or a vessel or a tank of the plant
abbrev pub is_lawful_place : Parts → CutParams → ℕ → Bool
is_lawful_place parts cut p = not (is_inside cut p) || is_stock parts p

-- the set has vessels and tanks of the plant alone; it may be empty
abbrev pub has_stock : Parts → CutParams → Bool
has_stock parts cut = list_all (is_lawful_place parts cut) (range_with_len 0 64)

-- what a unit of crude c weighs
abbrev pub weight_of : CutParams → ℕ → ℤ
weight_of cut c = slice_index_or cut.weights c (pos 0)

-- the number is small enough for a weight, and for what it is held against
abbrev pub is_small : ℤ → Bool
is_small number = nat_le (unsigned_abs number) MOST_CUT_WEIGHT

-- the weight of crude c is small, and 0 where the plant has no such crude
abbrev pub is_lawful_weight : Parts → CutParams → ℕ → Bool
is_lawful_weight parts cut c =
    is_small (weight_of cut c) && (nat_lt c (crude_count_of parts) || unsigned_abs (weight_of cut c) == 0)

-- so is each
abbrev pub has_weights : Parts → CutParams → Bool
has_weights parts cut = list_all (is_lawful_weight parts cut) (range_with_len 0 MOST_CRUDES)

-- the denominator
abbrev pub has_denominator : CutParams → Bool
has_denominator cut = nat_lt 0 (natural cut.q) && nat_le (natural cut.q) MOST_CUT_DENOMINATOR

-- the threshold p / q
abbrev pub has_threshold : CutParams → Bool
has_threshold cut = has_denominator cut && is_small cut.p

-- the cut is one of the plant's
unfoldable pub is_valid : Parts → CutParams → Bool
is_valid parts cut = has_stock parts cut && has_threshold cut && has_weights parts cut
