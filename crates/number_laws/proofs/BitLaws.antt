-- Sets of numbers as the bits of one number.
use Rattle.std.proofs.Common.{◌≡◌, ◌⊎◌, ℕ, zero, suc, ◌+◌, ◌-◌, ◌/◌, ◌%◌, ◌^◌, ◌<◌, min, refl, inl, inr, sym, ap, ◌∙◌, arith}
use Rattle.std.specs.Prelude.{◌↔◌, IsBitSet, bit_and, bit_or}
use Rattle.std.specs.Int.{bit_at}
use Rattle.std.specs.Int.Count.{ones, ones_step}
use Rattle.std.proofs.lemmas.Bool.{cases_lt}
use Rattle.std.proofs.lemmas.Nat.{and_le_l, and_shr, and_mod, ones-le, bit_set_by_shift}
use Rattle.std.proofs.lemmas.Nat.Bits.{shr_and_one, bit_at_and, bit_at_or, bit_at_ones, bit_at_ones_above, bit_at-lt, bit_at-suc}
use Rattle.std.proofs.Math.Nat.{pow-suc}

-- ---- members

-- a bit is set where it is 1
pub set_from_one : (n k : ℕ) → bit_at n k ≡ 1 → IsBitSet n k
set_from_one n k one = (bit_set_by_shift n k).0 (shr_and_one n k ∙ one)

pub one_from_set : (n k : ℕ) → IsBitSet n k → bit_at n k ≡ 1
one_from_set n k set = sym (shr_and_one n k) ∙ (bit_set_by_shift n k).1 set

-- what both sets hold
pub set_and : (x y a : ℕ) → IsBitSet (bit_and x y) a ↔ (IsBitSet x a × IsBitSet y a)
set_and x y a = (
  λ both.
      let one = one_from_set _ a both in (
        set_from_one x a (omega (arith, bit_at_and x y a, one, bit_at-lt x a, bit_at-lt y a)),
        set_from_one y a (omega (arith, bit_at_and x y a, one, bit_at-lt x a, bit_at-lt y a)),
      ),
  λ each.
      set_from_one _ a (omega (arith, bit_at_and x y a, one_from_set x a each.0, one_from_set y a each.1)),
)

-- what one of the sets holds
pub set_or : (x y a : ℕ) → IsBitSet (bit_or x y) a ↔ (IsBitSet x a ⊎ IsBitSet y a)
set_or x y a = (
  λ either.
      let one = one_from_set _ a either in
      elim (cases_lt (bit_at x a) 1) [
        | inl none ↦ inr (set_from_one y a (omega (arith, bit_at_or x y a, one, none, bit_at-lt y a)))
        | inr some ↦ inl (set_from_one x a (omega (arith, some, bit_at-lt x a)))
      ],
  elim [
    | inl left ↦ set_from_one _ a (omega (arith, bit_at_or x y a, one_from_set x a left, bit_at-lt y a))
    | inr right ↦ set_from_one _ a (omega (arith, bit_at_or x y a, one_from_set y a right, bit_at-lt x a))
  ],
)

-- the numbers below k
pub set_below : (k a : ℕ) → IsBitSet (2 ^ k - 1) a ↔ (a < k)
set_below k a = (
  λ set.
      elim (cases_lt a k) [
        | inl below ↦ below
        | inr above ↦ absurd (omega (arith, one_from_set _ a set, bit_at_ones_above k a above))
      ],
  λ below. set_from_one _ a (bit_at_ones k a below),
)

-- a bit is set or not
pub digit_cases : (d : ℕ) → d < 2 → (d ≡ 0) ⊎ (d ≡ 1)
digit_cases zero small = inl refl
digit_cases (suc d) small = inr (omega arith)

pub in_or_out : (set k : ℕ) → IsBitSet set k ⊎ (bit_at set k ≡ 0)
in_or_out set k =
    elim (digit_cases _ (bit_at-lt set k)) [ inl none ↦ inr none | inr one ↦ inl (set_from_one set k one) ]

pub digit_out : (set k : ℕ) → (¬ (IsBitSet set k)) → bit_at set k ≡ 0
digit_out set k out = elim (in_or_out set k) [ inl there ↦ absurd (out there) | inr none ↦ none ]

pub out_from_digit : (set k : ℕ) → bit_at set k ≡ 0 → ¬ (IsBitSet set k)
out_from_digit set k none there = let one = one_from_set set k there in absurd (omega arith)

-- ---- by halving

-- what is in both, and what is in the one and not in the other, by halving
and_half : (a b : ℕ) → bit_and a b / 2 ≡ bit_and (a / 2) (b / 2)
and_half a b = and_shr a b 1

and_low : (a b : ℕ) → bit_and a b % 2 ≡ bit_and (a % 2) (b % 2)
and_low a b = and_mod a b 1

rest_half : (a b : ℕ) → (a - bit_and a b) / 2 ≡ a / 2 - bit_and (a / 2) (b / 2)
rest_half a b = omega (arith, and_half a b, and_low a b, and_le_l (a / 2) (b / 2), and_le_l (a % 2) (b % 2))

rest_low : (a b : ℕ) → (a - bit_and a b) % 2 ≡ a % 2 - bit_and (a % 2) (b % 2)
rest_low a b = omega (arith, and_half a b, and_low a b, and_le_l (a / 2) (b / 2), and_le_l (a % 2) (b % 2))

-- ---- what is in the one and not in the other

bit_at-rest : (k a b : ℕ) → bit_at (a - bit_and a b) k ≡ bit_at a k - min (bit_at a k) (bit_at b k)
bit_at-rest zero a b = omega (arith, rest_low a b, bit_at_and a b 0, and_low a b)
bit_at-rest (suc k) a b =
    let halved : bit_at ((a - bit_and a b) / 2) k ≡ bit_at (a / 2 - bit_and (a / 2) (b / 2)) k = ap (λ n. bit_at n k) (rest_half a b) in
    omega (arith, bit_at-suc (a - bit_and a b) k, bit_at-suc a k, bit_at-suc b k, halved, bit_at-rest k (a / 2) (b / 2))

pub rest_from : (a b k : ℕ) → IsBitSet (a - bit_and a b) k → IsBitSet a k × (¬ (IsBitSet b k))
rest_from a b k there =
    let one = one_from_set _ k there in
    let digit = bit_at-rest k a b in
    let in_a = bit_at-lt a k in
    let in_b = bit_at-lt b k in
    (set_from_one a k (omega arith), λ is. absurd (let one_b = one_from_set b k is in omega arith))

pub rest : (a b k : ℕ) → IsBitSet a k → (¬ (IsBitSet b k)) → IsBitSet (a - bit_and a b) k
rest a b k in_a out_b =
    let one_a = one_from_set a k in_a in
    let digit = bit_at-rest k a b in
    let none_b = digit_out b k out_b in
    set_from_one _ k (omega arith)

-- it is what the code's `a & !b` gives
pub and-not : (w a b : ℕ) → a < 2 ^ w → b < 2 ^ w → bit_and a (2 ^ w - 1 - b) ≡ a - bit_and a b
and-not zero a b small_a small_b = omega (arith, and_le_l a (2 ^ 0 - 1 - b))
and-not (suc w) a b small_a small_b =
    let power = pow-suc 2 w in
    let half : (2 ^ suc w - 1 - b) / 2 ≡ 2 ^ w - 1 - b / 2 = omega arith in
    let low : (2 ^ suc w - 1 - b) % 2 ≡ 1 - b % 2 = omega arith in
    let rec = and-not w (a / 2) (b / 2) (omega arith) (omega arith) in
    let other : bit_and a (2 ^ suc w - 1 - b) / 2 ≡ bit_and (a / 2) (2 ^ w - 1 - b / 2) = and_half a _ ∙ ap (bit_and (a / 2)) half in
    let last : bit_and a (2 ^ suc w - 1 - b) % 2 ≡ bit_and (a % 2) (1 - b % 2) = and_low a _ ∙ ap (bit_and (a % 2)) low in
    let digits : bit_and (a % 2) (1 - b % 2) ≡ a % 2 - bit_and (a % 2) (b % 2) = low_digits (a % 2) (b % 2) (omega arith) (omega arith) in
    omega (arith, rest_half a b, rest_low a b)
  where
    low_digits : (d e : ℕ) → d < 2 → e < 2 → bit_and d (1 - e) ≡ d - bit_and d e
    low_digits zero e small_d small_e = refl
    low_digits (suc zero) zero small_d small_e = refl
    low_digits (suc zero) (suc zero) small_d small_e = refl
    low_digits (suc zero) (suc (suc e)) small_d small_e = absurd (omega arith)
    low_digits (suc (suc d)) e small_d small_e = absurd (omega arith)

-- ---- how many

pub ones_parts : (w a b : ℕ) → a < 2 ^ w → ones (bit_and a b) + ones (a - bit_and a b) ≡ ones a
ones_parts zero a b small =
    let less = and_le_l a b in
    omega (arith, ones-le 0 a small, ones-le 0 (bit_and a b) (omega arith), ones-le 0 (a - bit_and a b) (omega arith))
ones_parts (suc w) a b small =
    let half : a / 2 < 2 ^ w = omega (arith, pow-suc 2 w) in
    let rec = ones_parts w (a / 2) (b / 2) half in
    let first = ap ones (and_half a b) in
    let second = ap ones (rest_half a b) in
    omega (arith, rec, first, second, ones_step a, ones_step (bit_and a b), ones_step (a - bit_and a b), rest_low a b, and_low a b, and_le_l (a % 2) (b % 2))
