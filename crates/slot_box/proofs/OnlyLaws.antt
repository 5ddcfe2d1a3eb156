-- The point of a box that has just one, and what a fixed slot says of each point.
use Rattle.std.proofs.Common.{◌≡◌, ℕ, inl, inr, ◌-◌, ◌*◌, ◌^◌, ◌<◌, ◌≤◌, Option, Some, None, List, [], ◌∷◌, length, refl, sym, ap, ◌∙◌, subst, arith}
use Rattle.std.specs.Prelude.{IsBitSet, IfSome}
use Rattle.std.specs.List.{AllByRecursion}
use Rattle.std.specs.Int.{bit_at}
use Rattle.std.proofs.Math.Nat.{le-mul_of_pos_right, mul_comm}
use Rattle.std.proofs.lemmas.Bool.{cases_lt, cases_eq, le-leb}
use Rattle.std.proofs.lemmas.Nat.Bits.{bit_at_above, bit_at-pow_same}
use Rattle.number_laws.proofs.BitLaws.{one_from_set, set_from_one}
use Rattle.slot_box.specs.declared.slot.Slot.{Slot}
use Rattle.slot_box.specs.Boxes.{IsPoint, points_of, slot_at, entry_at, only_entry, only_point}
use Rattle.slot_box.specs.Counting.{IsCountOf}
use Rattle.slot_box.specs.Entries.{Entry, idle, runs, bit_of, LiesIn}
use Rattle.slot_box.specs.Slots.{IsSlot, IsFixedTo, live_of, fixed_of, ways_of}
use Rattle.slot_box.proofs.CountLaws.{HasDigit}
use Rattle.slot_box.proofs.EntryLaws.{IsCountOf-ways_of, ways_of-pos, idle_lies}
use Rattle.slot_box.proofs.HalfLaws.{live_entry, live_small}
use Rattle.slot_box.proofs.LiveLaws.{alone, pow_only, IsFixedTo-from_fixed_of, fixed_of-from_IsFixedTo, IsLive-from_live_of}
use Rattle.slot_box.proofs.PointLaws.{one_from_count, points_of-pos, LiesIn-at}

-- the entries of a fixed slot run its operation
pub bit_of-fixed : (s : Slot) (op : ℕ) (e : Entry) → IsFixedTo s op → LiesIn s e → bit_of e ≡ op
bit_of-fixed s op e fixed lies =
    pow_only op (bit_of e) (one_from_set _ _ (subst (λ set. IsBitSet set (bit_of e)) fixed.alone (live_entry s e lies)))

-- an operation that is live runs with the least numbers
least_run : (s : Slot) (op : ℕ) → IsSlot s → op < 63 → IsBitSet (live_of s) op → LiesIn s (runs op s.start.lo s.end.lo s.volume.lo)
least_run s op slot small live =
    record {
      known = small;
      there = (IsLive-from_live_of s op live).there;
      volume = (omega arith, slot.volume.0);
      start = (omega arith, slot.start.0);
      end = (omega arith, slot.end.0);
    }

-- a slot that can be filled in one way only, by an operation, is fixed to it
fixed_from_run : (s : Slot) (op start end volume : ℕ) → IsSlot s → LiesIn s (runs op start end volume) → ((e : Entry) → LiesIn s e → bit_of e ≡ op)
    → IsFixedTo s op
fixed_from_run s op start end volume slot lies only =
    record {
      operation = lies.known;
      alone = alone (live_of s) op (one_from_set _ op (live_entry s _ lies)) each;
    }
  where
    each : (k : ℕ) → HasDigit (live_of s) k → k ≡ op
    each k there =
        elim (cases_lt k 63) [
          | inl small ↦ only (runs k s.start.lo s.end.lo s.volume.lo) (least_run s k slot small (set_from_one _ k there))
          | inr large ↦
              elim (cases_eq k 63) [
                | inl same ↦
                    let top : bit_at (live_of s) 63 ≡ 1 = subst (λ j. bit_at (live_of s) j ≡ 1) same there in
                    let live = idle_lies s slot (le-leb (2 ^ 63) (live_of s) (omega arith)) in
                    absurd (let less = lies.known in let is = only idle live in omega arith)
                | inr other ↦ absurd (let none = bit_at_above (live_of s) 64 k (live_small s slot) (omega arith) in omega arith)
              ]
        ]

-- what fills a slot that can be filled in one way only
only_entry_lies : (s : Slot) → IsSlot s → ways_of s ≡ 1 → LiesIn s (only_entry s)
only_entry_lies s slot single = by_fixed (fixed_of s) refl
  where
    one : (e : Entry) × LiesIn s e × ((f : Entry) → LiesIn s f → f ≡ e)
    one = one_from_count (LiesIn s) (subst (IsCountOf (LiesIn s)) single (IsCountOf-ways_of s slot))

    idle_is : (e : Entry) → LiesIn s e → ((f : Entry) → LiesIn s f → f ≡ e) → fixed_of s ≡ None → LiesIn s idle
    idle_is idle lies only none = lies
    idle_is (runs op start end volume) lies only none =
        let fixed = fixed_from_run s op start end volume slot lies (λ f in_slot. ap bit_of (only f in_slot)) in
        absurd (let some = fixed_of-from_IsFixedTo s op fixed in let clash : ◌≡◌ {A = Option ℕ} None (Some op) = sym none ∙ some in cc)

    by_fixed : (found : Option ℕ) → fixed_of s ≡ found → LiesIn s (only_entry s)
    by_fixed None is = rw is (idle_is one.0 one.1 one.2 is)
    by_fixed (Some op) is =
        let fixed = IsFixedTo-from_fixed_of s op slot is in
        let live : IsBitSet (live_of s) op = subst (λ set. IsBitSet set op) (sym fixed.alone) (set_from_one _ op (bit_at-pow_same op)) in
        rw is (least_run s op slot fixed.operation live)

-- the factors of one
one_factors : (a b : ℕ) → 0 < a → 0 < b → a * b ≡ 1 → (a ≡ 1) × (b ≡ 1)
one_factors a b some_a some_b product =
    let first : a ≤ a * b = le-mul_of_pos_right a some_b in
    let second : b ≤ b * a = le-mul_of_pos_right b some_a in
    (omega arith, omega (arith, mul_comm a b))

-- the only point of a box is a point of it
pub IsPoint-only_point : (slots : List Slot) → AllByRecursion IsSlot slots → points_of slots ≡ 1 → IsPoint slots (only_point slots)
IsPoint-only_point [] each single = tt
IsPoint-only_point (s ∷ slots) each single =
    let factors = one_factors (ways_of s) (points_of slots) (ways_of-pos s each.0) (points_of-pos slots each.1) single in
    (only_entry_lies s each.0 factors.0, IsPoint-only_point slots each.1 factors.1)

-- each point of a box runs the operation to which a slot is fixed
pub fixed_runs : (slots : List Slot) (i : ℕ) (found : Option ℕ) → 1 ≤ i → i ≤ length slots → IsSlot (slot_at slots i) → found ≡ fixed_of (slot_at slots i)
    → IfSome found (λ op. (point : List Entry) → IsPoint slots point → bit_of (entry_at point i) ≡ op)
fixed_runs slots i None from there slot is = tt
fixed_runs slots i (Some op) from there slot is =
    λ point at. bit_of-fixed (slot_at slots i) op (entry_at point i) (IsFixedTo-from_fixed_of _ op slot (sym is))
    (LiesIn-at slots (i - 1) point (omega arith) at)
