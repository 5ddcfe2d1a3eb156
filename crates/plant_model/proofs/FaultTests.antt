-- What the tests of the faults say where they hold.
use Rattle.std.proofs.Common.{◌≡◌, ℕ, ◌<◌, true, ◌&&◌, List, length, get_or, arith}
use Rattle.std.proofs.lemmas.Bool.{and_parts}
use Rattle.std.proofs.lemmas.Bool.Decides.{nat_tests}
use Rattle.std.proofs.lemmas.Int.{ints}
use Rattle.std.specs.Prelude.{ℤ, pos, int_le, int_lt, ◌≤ℤ◌, ◌<ℤ◌, ◌==◌}
use Rattle.std.specs.List.{list_all}
use Rattle.item_lists.proofs.ListLaws.{each_passes}
use Rattle.limits.specs.declared.TheConstants.{MOST_PROPERTY}
use Rattle.plant_model.specs.declared.parts.Pair.{Pair}
use Rattle.plant_model.specs.Faults.{is_within, is_range, is_window, are_limits}
use Rattle.plant_model.specs.inside.SoundParts.{IsWithin, IsPairWithin, AreWithin}

pub equal_is : (a b : ℕ) → (a == b) ≡ true → a ≡ b
equal_is a b h = grind (arith, nat_tests)

pub le_is : (a b : ℤ) → int_le a b ≡ true → a ≤ℤ b
le_is a b h = grind (arith, ints)

pub lt_is : (a b : ℤ) → int_lt a b ≡ true → a <ℤ b
lt_is a b h = grind (arith, ints)

pub within_is : (low high z : ℤ) → is_within low high z ≡ true → IsWithin low high z
within_is low high z h =
    let p = and_parts (int_le low z) (int_le z high) h in
    record { from_low = le_is low z p.0; to_high = le_is z high p.1 }

pub range_is : (low high : ℤ) (pair : Pair) → is_range low high pair ≡ true → IsPairWithin low high pair
range_is low high pair h =
    let p = and_parts (int_le low pair.lo && int_le pair.lo pair.hi) (int_le pair.hi high) h in
    let q = and_parts (int_le low pair.lo) (int_le pair.lo pair.hi) p.0 in
    record { from_low = le_is low pair.lo q.0; in_order = le_is pair.lo pair.hi q.1; to_high = le_is pair.hi high p.1 }

pub within_all : (count : ℕ) (high : ℤ) (numbers : List ℤ) → length numbers ≡ count → list_all (is_within (pos 0) high) numbers ≡ true
    → AreWithin count high numbers
within_all count high numbers all_there each = record {
  all_there = all_there;
  each_within = λ i within. within_is (pos 0) high (get_or numbers i (pos 0)) (each_passes (is_within (pos 0) high) numbers i (pos 0) each (omega arith));
}

pub window_is : (horizon arrival : ℤ) (window : Pair) → is_window horizon arrival window ≡ true
    → IsPairWithin (pos 0) horizon window × (window.lo <ℤ window.hi) × (arrival ≤ℤ window.lo)
window_is horizon arrival window h =
    let p = and_parts (int_le (pos 0) window.lo && int_lt window.lo window.hi && int_le window.hi horizon) (int_le arrival window.lo) h in
    let q = and_parts (int_le (pos 0) window.lo && int_lt window.lo window.hi) (int_le window.hi horizon) p.0 in
    let r = and_parts (int_le (pos 0) window.lo) (int_lt window.lo window.hi) q.0 in
    let not_empty = lt_is window.lo window.hi r.1 in (
      record { from_low = le_is (pos 0) window.lo r.0; in_order = omega (arith, ints); to_high = le_is window.hi horizon q.1 },
      not_empty,
      le_is arrival window.lo p.1,
    )

pub limits_are : (count : ℕ) (limits : List Pair) → are_limits count limits ≡ true
    → (length limits ≡ count) × ((k : ℕ) → k < length limits → IsPairWithin (pos 0) (pos MOST_PROPERTY) (get_or limits k (record { lo = pos 0; hi = pos 0 })))
limits_are count limits h =
    let p = and_parts (length limits == count) (list_all (is_range (pos 0) (pos MOST_PROPERTY)) limits) h in (
      equal_is (length limits) count p.0,
      λ k within. range_is (pos 0) (pos MOST_PROPERTY) (get_or limits k (record { lo = pos 0; hi = pos 0 }))
          (each_passes (is_range (pos 0) (pos MOST_PROPERTY)) limits k (record { lo = pos 0; hi = pos 0 }) p.1 within),
    )
