-- What follows from the limits of a slot.
use Rattle.std.proofs.Common.{◌*◌, ◌^◌, ◌<◌, ◌≤◌, ℕ, arith}
use Rattle.std.proofs.lemmas.Nat.{pow_pos, mul-le}
use Rattle.std.proofs.Math.Nat.{pow-le-pow_right}
use Rattle.std.proofs.Math.ListN.{length-replicate}
use Rattle.std.proofs.lemmas.List.Elements.{All-replicate}
use Rattle.limits.specs.declared.TheConstants.{MOST_HORIZON, MOST_OPERATIONS, MOST_SLOTS, MOST_VOLUME}
use Rattle.slot_box.specs.Slots.{IsSlot}
use Rattle.slot_box.specs.Boxes.{IsBox, IsSlotOfRoot, IsWithinRoot, root_of, whole_slot}

-- a slot of a root box keeps the limits
pub IsSlot-whole_slot : (ops volume horizon : ℕ) → ops ≤ MOST_OPERATIONS → volume ≤ MOST_VOLUME → horizon ≤ MOST_HORIZON
    → IsSlot (whole_slot ops volume horizon)
IsSlot-whole_slot ops volume horizon few small short =
    let low : 2 ^ ops ≤ 2 ^ MOST_OPERATIONS = pow-le-pow_right (omega arith) few in
    let some = pow_pos ops in
    record {
      volume = (omega arith, small);
      start = (omega arith, short);
      end = (omega arith, short);
      set = omega arith;
      known = omega arith;
      live = omega arith;
    }

-- a root box is a box
pub IsBox-root_of : (n ops volume horizon : ℕ) → 1 ≤ n → n ≤ MOST_SLOTS → ops ≤ MOST_OPERATIONS → volume ≤ MOST_VOLUME → horizon ≤ MOST_HORIZON
    → IsBox (root_of n ops volume horizon)
IsBox-root_of n ops volume horizon some most few small short =
    record {
      some_slots = simp length-replicate some;
      most_slots = simp length-replicate most;
      each = All-replicate IsSlot n (whole_slot ops volume horizon) (IsSlot-whole_slot ops volume horizon few small short);
    }

-- the entries of a slot are fewer than a number of 128 bits can count
pub product_fits : (a b c d : ℕ) → a ≤ 64 → b ≤ 2 ^ 32 → c ≤ 2 ^ 32 → d ≤ 2 ^ 32 → a * b * c * d < 2 ^ 120
product_fits a b c d ha hb hc hd =
    let two : a * b ≤ 64 * 2 ^ 32 = mul-le a b _ _ ha hb in
    let three : a * b * c ≤ 64 * 2 ^ 32 * 2 ^ 32 = mul-le (a * b) c _ _ two hc in
    let four : a * b * c * d ≤ 64 * 2 ^ 32 * 2 ^ 32 * 2 ^ 32 = mul-le (a * b * c) d _ _ three hd in
    omega (arith, four)

-- which lies within itself
pub IsWithinRoot-root_of : (n ops volume horizon : ℕ) → ops ≤ MOST_OPERATIONS → IsWithinRoot ops volume horizon (root_of n ops volume horizon)
IsWithinRoot-root_of n ops volume horizon few =
    let low : 2 ^ ops ≤ 2 ^ MOST_OPERATIONS = pow-le-pow_right (omega arith) few in
    let some = pow_pos ops in
    All-replicate (IsSlotOfRoot ops volume horizon) n (whole_slot ops volume horizon)
    (record { set = omega arith; volume_end = omega arith; start_end = omega arith; end_end = omega arith })
