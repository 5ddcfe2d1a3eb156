-- A decimal with a sign is read as the number that it is of, and nothing else is read.
use Rattle.std.proofs.Common.{◌≡◌, ◌≢◌, ℕ, zero, suc, ◌-◌, ◌^◌, ◌<◌, ◌≤◌, eqb, List, [], ◌∷◌, get_or, Option, Some, None, refl, sym, ap, subst, ◌∙◌, arith, inl, inr, ℤ, pos, negsuc, FitsSigned}
use Rattle.std.specs.Prelude.{decimal, IfSome, IfNone}
use Rattle.std.specs.Int.{w64}
use Rattle.std.specs.Fmt.{signed_decimal}
use Rattle.std.specs.Option.{option_map, option_and_then}
use Rattle.std.proofs.lemmas.Str.Parse.{not_in_digits}
use Rattle.std.proofs.lemmas.Fmt.{digits_decimal, decimal_nonempty}
use Rattle.std.proofs.lemmas.Bool.{eqb-true, ne_eqb, cond-true, cond-false, cases_Bool}
use Rattle.std.proofs.lemmas.Option.{none-some, same_Some, option_and_then_some}
use Rattle.line_text.specs.Decimal.{decimal_of, signed_of}
use Rattle.line_text.specs.inside.Digits.{below_zero}
use Rattle.line_text.proofs.DecimalLaws.{own, decimal_of-decimal, decimal_of-some}

-- a decimal has no `-`
pub decimal_begins_without_minus : (n : ℕ) → n < 2 ^ 64 → get_or (decimal n) 0 0 ≢ 45
decimal_begins_without_minus n small = not_in_digits own (decimal n) 45 (digits_decimal own n small) (λ range. absurd (omega (arith, range.0))) 0
    (decimal_nonempty n small)

-- a number with a sign is read from its decimal
pub signed_of-decimal : (z : ℤ) → FitsSigned w64 z → signed_of (signed_decimal z) ≡ Some z
unfolding signed_of
signed_of-decimal (pos n) fits =
    let small : n < 2 ^ 63 = fits.sfits in
    rw (ne_eqb (get_or (decimal n) 0 0) 45 (decimal_begins_without_minus n (omega arith)), decimal_of-decimal (2 ^ 63 - 1) n (omega arith) (omega arith)) refl
signed_of-decimal (negsuc n) fits =
    let small : n < 2 ^ 63 = fits.sfits in
    rw (decimal_of-decimal (2 ^ 63) (suc n) (omega arith) (omega arith)) refl

-- a number below 0 behind its `-`
below_zero-some : (n : ℕ) (z : ℤ) (rest : List ℕ) → below_zero n ≡ Some z → rest ≡ decimal n → n ≤ 2 ^ 63 → (45 ∷ rest ≡ signed_decimal z) × FitsSigned w64 z
below_zero-some zero z rest found text within = absurd (none-some z found)
below_zero-some (suc n) z rest found text within =
    subst (λ (y : ℤ). (45 ∷ rest ≡ signed_decimal y) × FitsSigned w64 y) (same_Some (negsuc n) z found)
    (ap (λ (t : List ℕ). 45 ∷ t) text, record { sfits = omega arith })

-- what is read behind a `-`
minus-some : (rest : List ℕ) (z : ℤ) → option_and_then below_zero (decimal_of (2 ^ 63) rest) ≡ Some z → (45 ∷ rest ≡ signed_decimal z) × FitsSigned w64 z
minus-some rest z found =
    option_and_then_some below_zero (decimal_of (2 ^ 63) rest) z found
    (λ n read size. let parts = decimal_of-some (2 ^ 63) rest n read (omega arith) in below_zero-some n z rest size parts.0 parts.1)

-- what is read without
plain-some : (bytes : List ℕ) (z : ℤ) (read : Option ℕ) → decimal_of (2 ^ 63 - 1) bytes ≡ read → option_map pos read ≡ Some z → (bytes ≡ signed_decimal z) ×
    FitsSigned w64 z
plain-some bytes z None is_read found = absurd (none-some z found)
plain-some bytes z (Some n) is_read found =
    let parts = decimal_of-some (2 ^ 63 - 1) bytes n is_read (omega arith) in
    subst (λ (y : ℤ). (bytes ≡ signed_decimal y) × FitsSigned w64 y) (same_Some (pos n) z found) (parts.0, record { sfits = omega (arith, parts.1) })

-- what is read is the decimal of what it is read as
pub signed_of-some : (bytes : List ℕ) (z : ℤ) → signed_of bytes ≡ Some z → (bytes ≡ signed_decimal z) × FitsSigned w64 z
unfolding signed_of
signed_of-some [] z found = plain-some [] z (decimal_of (2 ^ 63 - 1) []) refl found
signed_of-some (byte ∷ rest) z found =
    elim (cases_Bool (eqb byte 45)) [
      | inl minus ↦
          let behind : option_and_then below_zero (decimal_of (2 ^ 63) rest)
          ≡ Some z = sym (cond-true (eqb byte 45) (option_and_then below_zero (decimal_of (2 ^ 63) rest))
          (option_map pos (decimal_of (2 ^ 63 - 1) (byte ∷ rest))) minus) ∙ found in
          subst (λ (b : ℕ). (b ∷ rest ≡ signed_decimal z) × FitsSigned w64 z) (sym (eqb-true byte 45 minus)) (minus-some rest z behind)
      | inr other ↦
          plain-some (byte ∷ rest) z (decimal_of (2 ^ 63 - 1) (byte ∷ rest)) refl
          (sym (cond-false (eqb byte 45) (option_and_then below_zero (decimal_of (2 ^ 63) rest)) (option_map pos (decimal_of (2 ^ 63 - 1) (byte ∷ rest))) other)
          ∙ found)
    ]

-- the two sides of what a reader answers
pub signed-found : (bytes : List ℕ) (answer : Option ℤ) → answer ≡ signed_of bytes → IfSome answer (λ z. bytes ≡ signed_decimal z)
signed-found bytes None given = tt
signed-found bytes (Some z) given = (signed_of-some bytes z (sym given)).0

pub signed-none : (bytes : List ℕ) (answer : Option ℤ) → answer ≡ signed_of bytes → IfNone answer ((z : ℤ) → FitsSigned w64 z → bytes ≢ signed_decimal z)
signed-none bytes None given = λ z fits text. none-some z (given ∙ ap signed_of text ∙ signed_of-decimal z fits)
signed-none bytes (Some z) given = tt
