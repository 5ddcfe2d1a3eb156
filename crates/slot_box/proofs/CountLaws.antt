-- How many things there are of a kind.
use Rattle.std.proofs.Common.{◌≡◌, ℕ, zero, suc, pred, inl, inr, ◌+◌, ◌-◌, ◌*◌, ◌/◌, ◌%◌, ◌^◌, ◌<◌, ◌≤◌, refl, sym, ap, ◌∙◌, ap₂, subst, arith}
use Rattle.std.specs.Int.{bit_at}
use Rattle.std.proofs.lemmas.Nat.Bits.{bit_at-suc, bit_at-zero, bit_at_lowest}
use Rattle.std.proofs.Math.Nat.{pow-suc, eq-zero-or-pos, mul-zero, mul_comm}
use Rattle.std.specs.Int.Count.{ones, ones_step}
use Rattle.std.proofs.lemmas.Nat.{ones-le, div_below, mod_below, mul-add-lt, div-mul-add, mod-mul-add, div-add-mod'}
use Rattle.number_laws.proofs.BitLaws.{digit_cases}
use Rattle.slot_box.specs.Counting.{IsCountOf}

-- the digits that are 1
abbrev pub HasDigit : ℕ → ℕ → Type 0
HasDigit set k = bit_at set k ≡ 1

HasDigit-zero : (set : ℕ) → set % 2 ≡ 1 → HasDigit set 0
HasDigit-zero set low = bit_at_lowest set ∙ low

HasDigit-suc : (set k : ℕ) → HasDigit (set / 2) k → HasDigit set (suc k)
HasDigit-suc set k there = bit_at-suc set k ∙ there

HasDigit-half : (set k : ℕ) → HasDigit set (suc k) → HasDigit (set / 2) k
HasDigit-half set k there = sym (bit_at-suc set k) ∙ there

-- no digit at all
no_digits : IsCountOf (HasDigit 0) 0
no_digits =
    record {
      number_of = λ k. 0;
      thing_of = λ k. 0;
      below = λ k there. let none = bit_at-zero k in omega arith;
      there = λ k small. absurd (omega arith);
      thing_of-number_of = λ k there. let none = bit_at-zero k in absurd (omega arith);
      number_of-thing_of = λ k small. absurd (omega arith);
    }

-- an even number has the digits of its half, one place on
even_digits : (set n : ℕ) → set % 2 ≡ 0 → IsCountOf (HasDigit (set / 2)) n → IsCountOf (HasDigit set) n
even_digits set n low half =
    record {
      number_of = λ k. half.number_of (pred k);
      thing_of = λ k. suc (half.thing_of k);
      below = below;
      there = λ k small. HasDigit-suc set _ (half.there k small);
      thing_of-number_of = back;
      number_of-thing_of = λ k small. half.number_of-thing_of k small;
    }
  where
    below : (k : ℕ) → HasDigit set k → half.number_of (pred k) < n
    below zero there = let lowest = bit_at_lowest set in absurd (omega arith)
    below (suc k) there = half.below k (HasDigit-half set k there)

    back : (k : ℕ) → HasDigit set k → suc (half.thing_of (half.number_of (pred k))) ≡ k
    back zero there = let lowest = bit_at_lowest set in absurd (omega arith)
    back (suc k) there = ap suc (half.thing_of-number_of k (HasDigit-half set k there))

-- an odd number has the first digit besides
odd_digits : (set n : ℕ) → set % 2 ≡ 1 → IsCountOf (HasDigit (set / 2)) n → IsCountOf (HasDigit set) (suc n)
odd_digits set n low half =
    record {
      number_of = number_of;
      thing_of = thing_of;
      below = below;
      there = there;
      thing_of-number_of = back;
      number_of-thing_of = forth;
    }
  where
    number_of : ℕ → ℕ
    number_of zero = 0
    number_of (suc k) = suc (half.number_of k)

    thing_of : ℕ → ℕ
    thing_of zero = 0
    thing_of (suc k) = suc (half.thing_of k)

    below : (k : ℕ) → HasDigit set k → number_of k < suc n
    below zero is = omega arith
    below (suc k) is = let rec = half.below k (HasDigit-half set k is) in omega arith

    there : (k : ℕ) → k < suc n → HasDigit set (thing_of k)
    there zero small = HasDigit-zero set low
    there (suc k) small = HasDigit-suc set _ (half.there k (omega arith))

    back : (k : ℕ) → HasDigit set k → thing_of (number_of k) ≡ k
    back zero is = refl
    back (suc k) is = ap suc (half.thing_of-number_of k (HasDigit-half set k is))

    forth : (k : ℕ) → k < suc n → number_of (thing_of k) ≡ k
    forth zero small = refl
    forth (suc k) small = ap suc (half.number_of-thing_of k (omega arith))

-- a set has as many entries as ones
pub digits : (w set : ℕ) → set < 2 ^ w → IsCountOf (HasDigit set) (ones set)
digits zero set small =
    let none : ones set ≤ 0 = ones-le 0 set small in
    subst (λ s. IsCountOf (HasDigit s) (ones set)) (omega arith) (subst (IsCountOf (HasDigit 0)) (omega arith) no_digits)
digits (suc w) set small =
    let rec = digits w (set / 2) (omega (arith, pow-suc 2 w)) in
    elim (digit_cases (set % 2) (omega arith)) [
      | inl even ↦ subst (IsCountOf (HasDigit set)) (omega (arith, ones_step set)) (even_digits set _ even rec)
      | inr odd ↦ subst (IsCountOf (HasDigit set)) (omega (arith, ones_step set)) (odd_digits set _ odd rec)
    ]

-- the numbers of a span
pub numbers : (low high : ℕ) → low ≤ high → IsCountOf (λ x. (low ≤ x) × (x ≤ high)) (high + 1 - low)
numbers low high some =
    record {
      number_of = λ x. x - low;
      thing_of = λ k. low + k;
      below = λ x within. omega (arith, within.0, within.1);
      there = λ k small. (omega arith, omega arith);
      thing_of-number_of = λ x within. omega (arith, within.0);
      number_of-thing_of = λ k small. omega arith;
    }

-- pairs of the one and the other
pub pairs : {X Y : Type 0} (P : X → Type 0) (Q : Y → Type 0) (m n : ℕ) → IsCountOf P m → IsCountOf Q n → IsCountOf (λ (p : X × Y). P p.0 × Q p.1) (m * n)
pairs {X} {Y} P Q m n first second =
    record {
      number_of = λ p. first.number_of p.0 * n + second.number_of p.1;
      thing_of = λ k. (first.thing_of (k / n), second.thing_of (k % n));
      below = below;
      there = λ k small. (first.there _ (row k small), second.there _ (column k small));
      thing_of-number_of = back;
      number_of-thing_of = forth;
    }
  where
    some_columns : (k : ℕ) → k < m * n → 0 < n
    some_columns k small =
        elim (eq-zero-or-pos n) [
          | inl none ↦ absurd (let nothing : m * n ≡ 0 = ap (λ x. m * x) none ∙ mul-zero m in omega arith)
          | inr some ↦ some
        ]

    row : (k : ℕ) → k < m * n → k / n < m
    row k small = div_below k n m (some_columns k small) small

    column : (k : ℕ) → k < m * n → k % n < n
    column k small = mod_below k n (some_columns k small)

    below : (p : X × Y) → P p.0 × Q p.1 → first.number_of p.0 * n + second.number_of p.1 < m * n
    below p is =
        subst (λ x. first.number_of p.0 * n + second.number_of p.1 < x) (mul_comm n m)
        (mul-add-lt (first.number_of p.0) n (second.number_of p.1) m (first.below _ is.0) (second.below _ is.1))

    back : (p : X × Y) → P p.0 × Q p.1
        → (first.thing_of ((first.number_of p.0 * n + second.number_of p.1) / n), second.thing_of ((first.number_of p.0 * n + second.number_of p.1) % n)) ≡ p
    back p is =
        let small = second.below _ is.1 in
        let quotient : first.thing_of ((first.number_of p.0 * n + second.number_of p.1) / n) ≡ p.0 =
        ap first.thing_of (div-mul-add _ n _ small) ∙ first.thing_of-number_of p.0 is.0 in
        let remainder : second.thing_of ((first.number_of p.0 * n + second.number_of p.1) % n) ≡ p.1 =
        ap second.thing_of (mod-mul-add _ n _ small) ∙ second.thing_of-number_of p.1 is.1 in
        ap₂ (λ x y. (x, y)) quotient remainder

    forth : (k : ℕ) → k < m * n → first.number_of (first.thing_of (k / n)) * n + second.number_of (second.thing_of (k % n)) ≡ k
    forth k small =
        ap₂ (λ x y. x * n + y) (first.number_of-thing_of _ (row k small)) (second.number_of-thing_of _ (column k small)) ∙ div-add-mod' k n

-- the same things under other names
pub renamed : {X Y : Type 0} (P : X → Type 0) (Q : Y → Type 0) (n : ℕ) (f : X → Y) (g : Y → X) → IsCountOf P n → ((x : X) → P x → Q (f x) × (g (f x) ≡ x))
    → ((y : Y) → Q y → P (g y) × (f (g y) ≡ y)) → IsCountOf Q n
renamed P Q n f g counted to from =
    record {
      number_of = λ y. counted.number_of (g y);
      thing_of = λ k. f (counted.thing_of k);
      below = λ y is. counted.below _ (from y is).0;
      there = λ k small. (to _ (counted.there k small)).0;
      thing_of-number_of = λ y is. ap f (counted.thing_of-number_of _ (from y is).0) ∙ (from y is).1;
      number_of-thing_of = λ k small. ap counted.number_of (to _ (counted.there k small)).1 ∙ counted.number_of-thing_of k small;
    }
