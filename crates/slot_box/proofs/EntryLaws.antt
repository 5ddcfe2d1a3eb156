-- The entries of a slot, and how many they are.
use Rattle.std.proofs.Common.{◌≡◌, ℕ, inl, inr, ◌+◌, ◌-◌, ◌*◌, ◌%◌, ◌^◌, ◌<◌, Bool, true, false, refl, sym, ap, ◌∙◌, subst, arith}
use Rattle.std.specs.Prelude.{IsBitSet, nat_le, nat_lt, if◌then◌else◌, ◌==◌, bit_and}
use Rattle.std.specs.Int.{bit_at}
use Rattle.std.proofs.lemmas.Nat.{and_mask, zero_from_ones}
use Rattle.std.proofs.Math.Nat.{eq-zero-or-pos, mul-pos}
use Rattle.std.proofs.lemmas.Nat.Bits.{bit_at_and, bit_at_ones, bit_at_above, bit_at-lt}
use Rattle.std.proofs.lemmas.Bool.{cases_Bool, and_parts, and_from, eqb-true, eq-eqb, leb-true, le-leb, cases_lt, leb-false, lt-ltb, le-ltb, ltb-true, ltb-false, false≢true, cond-true, cond-false}
use Rattle.std.specs.Int.Count.{ones}
use Rattle.number_laws.proofs.BitLaws.{one_from_set, set_from_one}
use Rattle.slot_box.specs.declared.slot.Slot.{Slot}
use Rattle.slot_box.specs.Counting.{IsCountOf}
use Rattle.slot_box.specs.Entries.{Entry, idle, runs, LiesIn}
use Rattle.slot_box.specs.Slots.{IsSlot, IsWithin, size_of, operations_of, has_zeros, live_of, ways_of, idle_bit}
use Rattle.slot_box.proofs.CountLaws.{HasDigit, digits, numbers, pairs, renamed}

-- ---- the operations of a set

digit_below : (w n k : ℕ) → k < w → bit_at (n % 2 ^ w) k ≡ bit_at n k
digit_below w n k small =
    let masked : bit_at (bit_and n (2 ^ w - 1)) k ≡ bit_at (n % 2 ^ w) k = ap (λ x. bit_at x k) (and_mask n w) in
    omega (arith, masked, bit_at_and n (2 ^ w - 1) k, bit_at_ones w k small, bit_at-lt n k)

pub operation_there : (s : Slot) (op : ℕ) → HasDigit (operations_of s) op → (op < idle_bit) × IsBitSet s.ops op
operation_there s op there =
    elim (cases_lt op 63) [
      | inl small ↦ (small, set_from_one s.ops op (sym (digit_below 63 s.ops op small) ∙ there))
      | inr large ↦ absurd (let none = bit_at_above (s.ops % 2 ^ 63) 63 op (omega arith) large in omega (arith, none, there))
    ]

pub operation_digit : (s : Slot) (op : ℕ) → op < idle_bit → IsBitSet s.ops op → HasDigit (operations_of s) op
operation_digit s op small there = digit_below 63 s.ops op small ∙ one_from_set s.ops op there

-- ---- idle

-- whether idle is live
abbrev pub idle_is_live : Slot → Bool
idle_is_live s = nat_le (2 ^ 63) (live_of s)

pub zeros_within : (s : Slot) → has_zeros s ≡ true → (s.volume.lo ≡ 0) × (s.start.lo ≡ 0) × (s.end.lo ≡ 0)
zeros_within s zeros =
    let parts = and_parts _ (s.end.lo == 0) zeros in
    let first = and_parts (s.volume.lo == 0) (s.start.lo == 0) parts.0 in
    (eqb-true _ _ first.0, eqb-true _ _ first.1, eqb-true _ _ parts.1)

zeros_from : (s : Slot) → s.volume.lo ≡ 0 → s.start.lo ≡ 0 → s.end.lo ≡ 0 → has_zeros s ≡ true
zeros_from s volume start end =
    and_from _ _ (and_from _ _ (eq-eqb _ _ volume) (eq-eqb _ _ start)) (eq-eqb _ _ end)

pub live_with_zeros : (s : Slot) → has_zeros s ≡ true → live_of s ≡ s.ops
live_with_zeros s zeros = cond-true _ _ _ zeros

pub live_without : (s : Slot) → has_zeros s ≡ false → live_of s ≡ operations_of s
live_without s zeros = cond-false _ _ _ zeros

pub zeros_of_idle : (s : Slot) → LiesIn s idle → has_zeros s ≡ true
zeros_of_idle s lies =
    zeros_from s (omega (arith, lies.volume.0)) (omega (arith, lies.start.0)) (omega (arith, lies.end.0))

idle_live : (s : Slot) → IsSlot s → LiesIn s idle → idle_is_live s ≡ true
idle_live s slot lies =
    let zeros = zeros_of_idle s lies in
    let live = live_with_zeros s zeros in
    let digit = one_from_set s.ops 63 lies.there in
    let set = slot.set in
    le-leb _ _ (omega arith)

pub idle_lies : (s : Slot) → IsSlot s → idle_is_live s ≡ true → LiesIn s idle
idle_lies s slot live =
    let large = leb-true _ _ live in
    elim (cases_Bool (has_zeros s)) [
      | inl zeros ↦
          let each = zeros_within s zeros in
          let whole = live_with_zeros s zeros in
          let set = slot.set in
          record {
            known = tt;
            there = set_from_one s.ops 63 (omega arith);
            volume = (omega (arith, each), omega arith);
            start = (omega (arith, each), omega arith);
            end = (omega (arith, each), omega arith);
          }
      | inr none ↦ absurd (let part = live_without s none in omega arith)
    ]

-- ---- how many

-- an operation, its volume, its start and its end
abbrev Run : Type 0
Run = ((ℕ × ℕ) × ℕ) × ℕ

run_of : Run → Entry
run_of r = runs r.0.0.0 r.0.1 r.1 r.0.0.1

numbers_of : Entry → Run
numbers_of idle = (((0, 0), 0), 0)
numbers_of (runs op start end volume) = (((op, volume), start), end)

abbrev LiesRunning : Slot → Entry → Type 0
LiesRunning s idle = ⊥
LiesRunning s (runs op start end volume) = LiesIn s (runs op start end volume)

abbrev runs_of : Slot → ℕ
runs_of s = ones (operations_of s) * size_of s.volume * size_of s.start * size_of s.end

abbrev RunLies : Slot → Run → Type 0
RunLies s r =
    ((HasDigit (operations_of s) r.0.0.0 × IsWithin r.0.0.1 s.volume) × IsWithin r.0.1 s.start) × IsWithin r.1 s.end

running : (s : Slot) → IsSlot s → IsCountOf (LiesRunning s) (runs_of s)
unfolding run_of numbers_of
running s slot =
    let ops = digits 63 (operations_of s) (omega arith) in
    let volumes = numbers s.volume.lo s.volume.hi slot.volume.0 in
    let starts = numbers s.start.lo s.start.hi slot.start.0 in
    let ends = numbers s.end.lo s.end.hi slot.end.0 in
    renamed (RunLies s) (LiesRunning s) (runs_of s) run_of numbers_of (pairs _ _ _ _ (pairs _ _ _ _ (pairs _ _ _ _ ops volumes) starts) ends) to from
  where
    to : (r : Run) → RunLies s r → LiesRunning s (run_of r) × (numbers_of (run_of r) ≡ r)
    to r is =
        let op = operation_there s _ is.0.0.0 in
        (record { known = op.0; there = op.1; volume = is.0.0.1; start = is.0.1; end = is.1 }, refl)

    from : (e : Entry) → LiesRunning s e → RunLies s (numbers_of e) × (run_of (numbers_of e) ≡ e)
    from idle lies = absurd lies
    from (runs op start end volume) lies = ((((operation_digit s op lies.known lies.there, lies.volume), lies.start), lies.end), refl)

-- with idle, which comes last
with_idle : (s : Slot) (n : ℕ) → IsCountOf (LiesRunning s) n → LiesIn s idle → IsCountOf (LiesIn s) (n + 1)
with_idle s n counted live =
    record {
      number_of = number_of;
      thing_of = λ k. thing_or k (nat_lt k n);
      below = below;
      there = λ k small. there k (nat_lt k n) refl;
      thing_of-number_of = back;
      number_of-thing_of = λ k small. forth k small (nat_lt k n) refl;
    }
  where
    number_of : Entry → ℕ
    number_of idle = n
    number_of (runs op start end volume) = counted.number_of (runs op start end volume)

    thing_or : ℕ → Bool → Entry
    thing_or k true = counted.thing_of k
    thing_or k false = idle

    running_lies : (e : Entry) → LiesRunning s e → LiesIn s e
    running_lies idle lies = absurd lies
    running_lies (runs op start end volume) lies = lies

    running_number : (e : Entry) → LiesRunning s e → number_of e ≡ counted.number_of e
    running_number idle lies = absurd lies
    running_number (runs op start end volume) lies = refl

    below : (e : Entry) → LiesIn s e → number_of e < n + 1
    below idle lies = omega arith
    below (runs op start end volume) lies = let small = counted.below (runs op start end volume) lies in omega arith

    there : (k : ℕ) (first : Bool) → nat_lt k n ≡ first → LiesIn s (thing_or k first)
    there k true is = running_lies (counted.thing_of k) (counted.there k (ltb-true k n is))
    there k false is = live

    back : (e : Entry) → LiesIn s e → thing_or (number_of e) (nat_lt (number_of e) n) ≡ e
    back idle lies = ap (thing_or n) (le-ltb n n (omega arith))
    back (runs op start end volume) lies =
        let e : Entry = runs op start end volume in
        ap (thing_or (counted.number_of e)) (lt-ltb _ _ (counted.below e lies)) ∙ counted.thing_of-number_of e lies

    forth : (k : ℕ) → k < n + 1 → (first : Bool) → nat_lt k n ≡ first → number_of (thing_or k first) ≡ k
    forth k small true is =
        let less = ltb-true k n is in running_number (counted.thing_of k) (counted.there k less) ∙ counted.number_of-thing_of k less
    forth k small false is = let more = ltb-false k n is in omega arith

-- without idle
without_idle : (s : Slot) (n : ℕ) → IsCountOf (LiesRunning s) n → (¬ (LiesIn s idle)) → IsCountOf (LiesIn s) n
without_idle s n counted dead = renamed (LiesRunning s) (LiesIn s) n (λ e. e) (λ e. e) counted to from
  where
    to : (e : Entry) → LiesRunning s e → LiesIn s e × (e ≡ e)
    to idle lies = absurd lies
    to (runs op start end volume) lies = (lies, refl)

    from : (e : Entry) → LiesIn s e → LiesRunning s e × (e ≡ e)
    from idle lies = absurd (dead lies)
    from (runs op start end volume) lies = (lies, refl)

-- a slot can be filled in as many ways as it has entries
pub IsCountOf-ways_of : (s : Slot) → IsSlot s → IsCountOf (LiesIn s) (ways_of s)
IsCountOf-ways_of s slot =
    elim (cases_Bool (idle_is_live s)) [
      | inl live ↦
          subst (λ b. IsCountOf (LiesIn s) (runs_of s + (if b then 1 else 0))) (sym live)
          (with_idle s (runs_of s) (running s slot) (idle_lies s slot live))
      | inr dead ↦
          subst (λ b. IsCountOf (LiesIn s) (runs_of s + (if b then 1 else 0))) (sym dead)
          (subst (IsCountOf (LiesIn s)) (omega arith)
          (without_idle s (runs_of s) (running s slot) (λ lies. false≢true (sym dead ∙ idle_live s slot lies))))
    ]

-- where idle is not live, the live entries are the operations
pub operations_alone : (s : Slot) → idle_is_live s ≡ false → operations_of s ≡ live_of s
operations_alone s dead =
    let less = leb-false _ _ dead in
    elim (cases_Bool (has_zeros s)) [
      | inl zeros ↦ let whole = live_with_zeros s zeros in omega arith
      | inr none ↦ sym (live_without s none)
    ]

-- a slot can be filled
pub ways_of-pos : (s : Slot) → IsSlot s → 0 < ways_of s
ways_of-pos s slot =
    elim (cases_Bool (idle_is_live s)) [
      | inl live ↦ subst (λ b. 0 < runs_of s + (if b then 1 else 0)) (sym live) (omega arith)
      | inr dead ↦
          let live = slot.live in
          let same = operations_alone s dead in
          let some : 0 < ones (operations_of s) = ones_pos (operations_of s) (omega arith) in
          let two : 0 < ones (operations_of s) * size_of s.volume = mul-pos some (omega (arith, slot.volume.0)) in
          let three : 0 < ones (operations_of s) * size_of s.volume * size_of s.start = mul-pos two (omega (arith, slot.start.0)) in
          let four : 0 < runs_of s = mul-pos three (omega (arith, slot.end.0)) in
          subst (λ b. 0 < runs_of s + (if b then 1 else 0)) (sym dead) (omega arith)
    ]
  where
    ones_pos : (n : ℕ) → 0 < n → 0 < ones n
    ones_pos n some =
        elim (eq-zero-or-pos (ones n)) [ inl none ↦ absurd (let zero_set = zero_from_ones n none in omega arith) | inr more ↦ more ]
