-- A decimal is read as the number that it is of, and nothing else is read.
use Rattle.std.proofs.Common.{◌≡◌, ◌≢◌, ℕ, ◌+◌, ◌-◌, ◌*◌, ◌^◌, ◌<◌, ◌≤◌, Bool, true, false, cond, ◌&&◌, leb, eqb, List, [], ◌∷◌, length, get_or, Option, Some, None, refl, sym, ap, ◌∙◌, arith, inl, inr}
use Rattle.std.specs.Prelude.{decimal, IfSome, IfNone}
use Rattle.std.specs.Char.{is_ascii_digit, digit_value}
use Rattle.std.specs.Str.{all_ascii_digits}
use Rattle.std.specs.Str.Parse.{digits_value, digits_value_after}
use Rattle.std.proofs.lemmas.Str.{digit_value_digit}
use Rattle.std.proofs.lemmas.Str.Parse.{IsNumeralModel, numerals_by_value, tells_all_ascii_digits}
use Rattle.std.proofs.lemmas.Fmt.{digits_decimal, digits_value-decimal, decimal_nonempty, first_decimal, decimal_digit, decimal-digits_value}
use Rattle.std.proofs.lemmas.Bool.{leb-true, lt-leb, le-leb, eq-eqb, ne_eqb, and_parts, cond-true, cases_lt, cases_Bool}
use Rattle.std.proofs.lemmas.Option.{none-some, cond_some}
use Rattle.line_text.specs.Decimal.{decimal_of}
use Rattle.line_text.specs.inside.Digits.{with_digit, value_after}

-- std's words for digits, as ours
pub own : IsNumeralModel (λ ds. all_ascii_digits ds ≡ true) (digits_value 10)
own = numerals_by_value (λ ds. all_ascii_digits ds ≡ true) tells_all_ascii_digits

value_of_digit : (byte : ℕ) → is_ascii_digit byte ≡ true → digit_value byte ≡ byte - 48
value_of_digit byte digit =
    let range = and_parts (leb 48 byte) (leb byte 57) digit in
    omega (arith, digit_value_digit byte (leb-true 48 byte range.0, leb-true byte 57 range.1))

-- more digits make no value less
value-grows : (value : ℕ) (bytes : List ℕ) → value ≤ digits_value_after 10 value bytes
value-grows value [] = omega arith
value-grows value (byte ∷ bytes) = omega (arith, value-grows (value * 10 + digit_value byte) bytes)

no_more : {A : Type 0} (test : Bool) (x : A) → cond (test && false) (Some x) None ≡ None
no_more true x = refl
no_more false x = refl

-- the value after more bytes, if all are digits and the value of all is within the limit
abbrev whole : ℕ → ℕ → List ℕ → Option ℕ
whole limit value bytes = cond (all_ascii_digits bytes && leb (digits_value_after 10 value bytes) limit) (Some (digits_value_after 10 value bytes)) None

-- the bytes that follow a digit within the limit say the rest
step_within : (limit value byte : ℕ) (bytes : List ℕ) → is_ascii_digit byte ≡ true → value_after limit (value * 10 + (byte - 48)) bytes
    ≡ whole limit (value * 10 + (byte - 48)) bytes
    → value * 10 + (byte - 48) ≤ limit → value_after limit value (byte ∷ bytes) ≡ whole limit value (byte ∷ bytes)
unfolding with_digit
step_within limit value byte bytes digit rest within = rw (digit, le-leb (value * 10 + (byte - 48)) limit within, value_of_digit byte digit) rest

-- past the limit nothing is within it again
step_past : (limit value byte : ℕ) (bytes : List ℕ) → is_ascii_digit byte ≡ true → limit < value * 10 + (byte - 48) → value_after limit value (byte ∷ bytes)
    ≡ whole limit value (byte ∷ bytes)
unfolding with_digit
step_past limit value byte bytes digit past =
    let grows = value-grows (value * 10 + (byte - 48)) bytes in
    let none : leb (digits_value_after 10 (value * 10 + (byte - 48)) bytes) limit ≡ false = lt-leb _ _ (omega (arith, grows)) in
    rw (digit, lt-leb (value * 10 + (byte - 48)) limit past, value_of_digit byte digit, none) (sym (no_more (all_ascii_digits bytes) _))

step_no_digit : (limit value byte : ℕ) (bytes : List ℕ) → is_ascii_digit byte ≡ false → value_after limit value (byte ∷ bytes)
    ≡ whole limit value (byte ∷ bytes)
unfolding with_digit
step_no_digit limit value byte bytes other = rw other refl

value_after-is_whole : (limit value : ℕ) (bytes : List ℕ) → value ≤ limit → value_after limit value bytes ≡ whole limit value bytes
value_after-is_whole limit value [] within = rw (le-leb value limit within) refl
value_after-is_whole limit value (byte ∷ bytes) within =
    elim (cases_Bool (is_ascii_digit byte)) [
      | inl digit ↦ elim (cases_lt limit (value * 10 + (byte - 48))) [
        | inl past ↦ step_past limit value byte bytes digit past
        | inr still ↦ step_within limit value byte bytes digit (value_after-is_whole limit (value * 10 + (byte - 48)) bytes still) still
      ]
      | inr other ↦ step_no_digit limit value byte bytes other
    ]

-- the first byte is no `0`, or the only one
abbrev HasNoNeedlessZero : List ℕ → Type 0
HasNoNeedlessZero bytes = (0 < length bytes) × (get_or bytes 0 0 ≡ 48 → length bytes ≡ 1)

decimal_of-plain : (limit : ℕ) (bytes : List ℕ) → HasNoNeedlessZero bytes → decimal_of limit bytes ≡ whole limit 0 bytes
unfolding decimal_of
decimal_of-plain limit [] plain = absurd (omega (arith, plain.0))
decimal_of-plain limit (byte ∷ []) plain = value_after-is_whole limit 0 (byte ∷ []) (omega arith)
decimal_of-plain limit (byte ∷ next ∷ bytes) plain = rw (ne_eqb byte 48 (λ e. absurd (omega (arith, plain.1 e))))
    (value_after-is_whole limit 0 (byte ∷ next ∷ bytes) (omega arith))

decimal_has_no_needless_zero : (n : ℕ) → n < 2 ^ 64 → HasNoNeedlessZero (decimal n)
decimal_has_no_needless_zero n small = (
  decimal_nonempty n small,
  λ zero_first. elim (cases_lt n 10) [
    | inl digit ↦ rw (decimal_digit n digit) refl
    | inr more ↦ absurd (omega (arith, first_decimal n (omega arith) small))
  ],
)

-- a decimal is read
pub decimal_of-decimal : (limit n : ℕ) → n ≤ limit → limit < 2 ^ 64 → decimal_of limit (decimal n) ≡ Some n
decimal_of-decimal limit n within small =
    let below : n < 2 ^ 64 = omega arith in
    decimal_of-plain limit (decimal n) (decimal_has_no_needless_zero n below)
    ∙ rw (digits_decimal own n below, digits_value-decimal own n below, le-leb n limit within) refl

-- what is read has no needless zero
plain_from_some : (limit : ℕ) (bytes : List ℕ) (n : ℕ) → decimal_of limit bytes ≡ Some n → HasNoNeedlessZero bytes
unfolding decimal_of
plain_from_some limit [] n found = absurd cc
plain_from_some limit (byte ∷ []) n found = (omega arith, λ e. refl)
plain_from_some limit (byte ∷ next ∷ bytes) n found =
    (omega arith, λ e. absurd (none-some n (sym (cond-true (eqb byte 48) None (value_after limit 0 (byte ∷ next ∷ bytes)) (eq-eqb byte 48 e)) ∙ found)))

-- what is read is the decimal of what it is read as
pub decimal_of-some : (limit : ℕ) (bytes : List ℕ) (n : ℕ) → decimal_of limit bytes ≡ Some n → limit < 2 ^ 64 → (bytes ≡ decimal n) × (n ≤ limit)
decimal_of-some limit bytes n found small =
    let plain = plain_from_some limit bytes n found in
    let parts = cond_some (all_ascii_digits bytes && leb (digits_value 10 bytes) limit) (digits_value 10 bytes) n (sym (decimal_of-plain limit bytes plain)
    ∙ found) in
    let tests = and_parts (all_ascii_digits bytes) (leb (digits_value 10 bytes) limit) parts.0 in
    let within : digits_value 10 bytes ≤ limit = leb-true _ _ tests.1 in
    (sym (decimal-digits_value own bytes tests.0 plain.0 plain.1 (omega arith)) ∙ ap decimal parts.1, omega (arith, within, parts.1))

-- the two sides of what a reader answers
pub decimal-found : (limit : ℕ) (bytes : List ℕ) (answer : Option ℕ) → answer ≡ decimal_of limit bytes → limit < 2 ^ 64 →
    IfSome answer (λ n. (bytes ≡ decimal n) × (n ≤ limit))
decimal-found limit bytes None given small = tt
decimal-found limit bytes (Some n) given small = decimal_of-some limit bytes n (sym given) small

pub decimal-none : (limit : ℕ) (bytes : List ℕ) (answer : Option ℕ) → answer ≡ decimal_of limit bytes → limit < 2 ^ 64 →
    IfNone answer ((n : ℕ) → n ≤ limit → bytes ≢ decimal n)
decimal-none limit bytes None given small =
    λ n within text. none-some n (given ∙ ap (decimal_of limit) text ∙ decimal_of-decimal limit n within small)
decimal-none limit bytes (Some n) given small = tt
