-- What the set of the live entries of a slot says.
use Rattle.std.proofs.Common.{◌≡◌, ◌≢◌, ℕ, inl, inr, ◌^◌, ◌<◌, ◌≤◌, false, Some, None, sym, ap, ◌∙◌, subst, arith}
use Rattle.std.specs.Prelude.{IsBitSet, ◌&&◌, nat_lt}
use Rattle.std.specs.Int.{bit_at, w64, is_power_of_two, trailing_zeros}
use Rattle.std.proofs.lemmas.Nat.{pow_below, pow_pos, ones-le}
use Rattle.std.proofs.Math.Nat.{eq-zero-or-pos, pow-le-pow_right}
use Rattle.std.proofs.lemmas.Nat.Bits.{bit_at-lt, bit_at_above, bit_at-pow_same, bit_at-pow_other, bit_at-trailing_zeros, same_from_bits}
use Rattle.std.proofs.lemmas.Bool.{cases_Bool, cases_eq, and_parts, and_from, eqb-true, eq-eqb, ltb-true, lt-ltb, cond-true, cond-false, cases_lt, false≢true}
use Rattle.std.specs.Int.Count.{ones}
use Rattle.number_laws.proofs.BitLaws.{one_from_set, set_from_one, digit_cases}
use Rattle.slot_box.specs.declared.slot.Slot.{Slot}
use Rattle.slot_box.specs.Counting.{IsCountOf}
use Rattle.slot_box.specs.Slots.{IsSlot, IsLive, IsFixedTo, has_zeros, live_of, fixed_of, operations_of}
use Rattle.slot_box.proofs.CountLaws.{HasDigit, digits}
use Rattle.slot_box.proofs.EntryLaws.{live_with_zeros, live_without, operation_there, operation_digit}
use Rattle.slot_box.proofs.HalfLaws.{live_small}
use Rattle.slot_box.proofs.PointLaws.{one_from_count, count_from_one}

-- ---- one digit alone

pub alone : (n k : ℕ) → bit_at n k ≡ 1 → ((i : ℕ) → HasDigit n i → i ≡ k) → n ≡ 2 ^ k
alone n k there only = same_from_bits n (2 ^ k) each
  where
    each : (i : ℕ) → bit_at n i ≡ bit_at (2 ^ k) i
    each i =
        elim (cases_eq i k) [
          | inl same ↦ subst (λ j. bit_at n j ≡ bit_at (2 ^ k) j) (sym same) (there ∙ sym (bit_at-pow_same k))
          | inr other ↦
              elim (digit_cases (bit_at n i) (bit_at-lt n i)) [
                | inl none ↦ none ∙ sym (bit_at-pow_other k i other)
                | inr one ↦ absurd (other (only i one))
              ]
        ]

pub pow_only : (k i : ℕ) → HasDigit (2 ^ k) i → i ≡ k
pow_only k i there =
    elim (cases_eq i k) [
      | inl same ↦ same
      | inr other ↦ absurd (let none = bit_at-pow_other k i other in omega arith)
    ]

pub power_from_ones : (n : ℕ) → n < 2 ^ 64 → ones n ≡ 1 → n ≡ 2 ^ trailing_zeros w64 n
power_from_ones n small one =
    let some : 0 < n = elim (eq-zero-or-pos n) [ inl none ↦ absurd (let nothing = ones-le 0 n (omega arith) in omega arith) | inr more ↦ more ] in
    let lowest = bit_at-trailing_zeros w64 n some small in
    let single = one_from_count (HasDigit n) (subst (IsCountOf (HasDigit n)) one (digits 64 n small)) in
    alone n _ lowest.1 (λ i there. single.2 i there ∙ sym (single.2 _ lowest.1))

pub ones_from_power : (k : ℕ) → k < 64 → ones (2 ^ k) ≡ 1
ones_from_power k small =
    count_from_one (HasDigit (2 ^ k)) _ (digits 64 (2 ^ k) (pow_below k 64 small)) (k, bit_at-pow_same k, pow_only k)

zeros_from_power : (k : ℕ) → k < 64 → trailing_zeros w64 (2 ^ k) ≡ k
zeros_from_power k small =
    let lowest = bit_at-trailing_zeros w64 (2 ^ k) (pow_pos k) (pow_below k 64 small) in pow_only k _ lowest.1

-- ---- a fixed slot

pub IsFixedTo-from_fixed_of : (s : Slot) (op : ℕ) → IsSlot s → fixed_of s ≡ Some op → IsFixedTo s op
IsFixedTo-from_fixed_of s op slot is =
    elim (cases_Bool (is_power_of_two (live_of s) && nat_lt (live_of s) (2 ^ 63))) [
      | inl fixed ↦
          let parts = and_parts (is_power_of_two (live_of s)) (nat_lt (live_of s) (2 ^ 63)) fixed in
          let found : trailing_zeros w64 (live_of s) ≡ op = let e = sym (cond-true _ (Some (trailing_zeros w64 (live_of s))) None fixed) ∙ is in cc in
          let power = power_from_ones (live_of s) (live_small s slot) (eqb-true _ _ parts.0) in
          let less = ltb-true (live_of s) (2 ^ 63) parts.1 in
          record {
            operation = elim (cases_lt op 63) [
              | inl small ↦ small
              | inr large ↦ absurd (let more = pow-le-pow_right {n = 2} (omega arith) large in let same = power ∙ ap (λ k. 2 ^ k) found in omega arith)
            ];
            alone = power ∙ ap (λ k. 2 ^ k) found;
          }
      | inr none ↦ absurd (let e = sym (cond-false _ (Some (trailing_zeros w64 (live_of s))) None none) ∙ is in cc)
    ]

pub fixed_of-from_IsFixedTo : (s : Slot) (op : ℕ) → IsFixedTo s op → fixed_of s ≡ Some op
fixed_of-from_IsFixedTo s op fixed =
    let small = fixed.operation in
    let power = fixed.alone in
    let one : ones (live_of s) ≡ 1 = ap ones power ∙ ones_from_power op (omega arith) in
    let less = pow_below op 63 small in
    let test = and_from (is_power_of_two (live_of s)) (nat_lt (live_of s) (2 ^ 63)) (eq-eqb _ _ one) (lt-ltb (live_of s) (2 ^ 63) (omega arith)) in
    cond-true _ (Some (trailing_zeros w64 (live_of s))) None test ∙ ap Some (ap (trailing_zeros w64) power ∙ zeros_from_power op (omega arith))

-- ---- the entries of the set of live ones

pub IsLive-from_live_of : (s : Slot) (bit : ℕ) → IsBitSet (live_of s) bit → IsLive s bit
IsLive-from_live_of s bit there =
    elim (cases_Bool (has_zeros s)) [
      | inl zeros ↦ record { there = subst (λ set. IsBitSet set bit) (live_with_zeros s zeros) there; zeros = λ is. zeros }
      | inr none ↦
          let op = operation_there s bit (one_from_set _ bit (subst (λ set. IsBitSet set bit) (live_without s none) there)) in
          record { there = op.1; zeros = λ is. absurd (let less = op.0 in omega arith) }
    ]

pub live_of-from_IsLive : (s : Slot) (bit : ℕ) → IsSlot s → IsLive s bit → IsBitSet (live_of s) bit
live_of-from_IsLive s bit slot live =
    elim (cases_Bool (has_zeros s)) [
      | inl zeros ↦ subst (λ set. IsBitSet set bit) (sym (live_with_zeros s zeros)) live.there
      | inr none ↦ subst (λ set. IsBitSet set bit) (sym (live_without s none)) (operation none)
    ]
  where
    operation : has_zeros s ≡ false → IsBitSet (operations_of s) bit
    operation none =
        elim (cases_lt bit 63) [
          | inl small ↦ set_from_one _ bit (operation_digit s bit small live.there)
          | inr large ↦
              elim (cases_eq bit 63) [
                | inl same ↦ absurd (false≢true (sym none ∙ live.zeros same))
                | inr other ↦
                    let above = bit_at_above s.ops 64 bit slot.set (omega arith) in
                    let one = one_from_set s.ops bit live.there in
                    absurd (omega arith)
              ]
        ]

-- one live entry that is not idle is below the number of idle
pub live_below : (s : Slot) → IsSlot s → ones (live_of s) ≡ 1 → live_of s ≢ 2 ^ 63 → live_of s < 2 ^ 63
live_below s slot one other =
    let small = live_small s slot in
    let power = power_from_ones (live_of s) small one in
    elim (cases_lt (trailing_zeros w64 (live_of s)) 63) [
      | inl less ↦ let below = pow_below _ 63 less in omega (arith, power)
      | inr more ↦
          elim (cases_eq (trailing_zeros w64 (live_of s)) 63) [
            | inl same ↦ absurd (other (power ∙ ap (λ k. 2 ^ k) same))
            | inr larger ↦ absurd (let large : 64 ≤ trailing_zeros w64 (live_of s) = omega arith in
                let p : 2 ^ 64 ≤ 2 ^ trailing_zeros w64 (live_of s) = pow-le-pow_right {n = 2} (omega arith) large in omega arith)
          ]
    ]
