-- Laws of boxes and root boxes, of the definitions alone.
use Rattle.std.proofs.Common.{ℕ, ◌-◌, ◌^◌, ◌<◌, ◌≤◌, refl, ◌∙◌, arith}
use Rattle.std.proofs.Math.Nat.{pow-le-pow_right}
use Rattle.std.proofs.lemmas.Nat.{pow_pos}
use Rattle.std.proofs.lemmas.Nat.Bits.{bit_at_cat_low, bit_at_cat_high, bit_at_ones}
use Rattle.std.proofs.lemmas.List.Elements.{recursion_from_All}
use Rattle.limits.specs.declared.TheConstants.{MOST_OPERATIONS}
use Rattle.number_laws.proofs.BitLaws.{one_from_set, set_from_one}
use Rattle.slot_box.specs.Boxes.{IsPoint, points_of}
use Rattle.slot_box.specs.Laws.{EntriesAreLive, OnlyPointsArePoints, RootSlotsMayIdle, RootSlotsMayRun}
use Rattle.slot_box.specs.Slots.{IsSlot}
use Rattle.slot_box.proofs.HalfLaws.{live_entry}
use Rattle.slot_box.proofs.OnlyLaws.{IsPoint-only_point}
use Rattle.slot_box.proofs.PointLaws.{IsCountOf-points_of, count_from_one}

pub entries_are_live : EntriesAreLive
entries_are_live s e lies = one_from_set _ _ (live_entry s e lies)

pub only_points_are_points : OnlyPointsArePoints
only_points_are_points slots box one =
    let each = recursion_from_All IsSlot slots box.each in
    IsPoint-only_point slots each (count_from_one (IsPoint slots) (points_of slots) (IsCountOf-points_of slots each) one)

-- ---- the entries of a root box

few_operations : (ops : ℕ) → ops ≤ MOST_OPERATIONS → 2 ^ ops - 1 < 2 ^ 63
few_operations ops few =
    let low : 2 ^ ops ≤ 2 ^ MOST_OPERATIONS = pow-le-pow_right (omega arith) few in let some = pow_pos ops in omega arith

pub root_slots_may_idle : RootSlotsMayIdle
root_slots_may_idle ops volume horizon few =
    record {
      known = tt;
      there = set_from_one _ 63 (bit_at_cat_high 1 63 (2 ^ ops - 1) 63 (few_operations ops few) (omega arith) ∙ refl);
      volume = (omega arith, omega arith);
      start = (omega arith, omega arith);
      end = (omega arith, omega arith);
    }

pub root_slots_may_run : RootSlotsMayRun
root_slots_may_run ops most horizon op start end volume few known starts ends least =
    record {
      known = omega arith;
      there = set_from_one _ op (bit_at_cat_low 1 63 (2 ^ ops - 1) op (omega arith) ∙ bit_at_ones ops op known);
      volume = (omega arith, omega arith);
      start = (omega arith, omega arith);
      end = (omega arith, omega arith);
    }
