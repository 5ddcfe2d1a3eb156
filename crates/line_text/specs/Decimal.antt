-- Whole numbers as digits. The decimal of a number, which std calls `decimal`, is `0`, or digits of which the first is
-- not `0`.
use Rattle.std.specs.Prelude.{◌≡◌, ℕ, ◌-◌, ◌^◌, ◌<◌, ◌==◌, slice_index, List, [], ◌∷◌, drop, Option, None, if◌then◌else◌, decimal, ℤ, pos, FitsSigned}
use Rattle.std.specs.Int.{w64}
use Rattle.std.specs.Fmt.{signed_decimal}
use Rattle.std.specs.Option.{option_map, option_and_then}
use Rattle.line_text.specs.inside.Digits.{value_after, below_zero}

-- the number whose decimal the bytes are, where it is at most limit: digits of which the first is `0` only where it is
-- the only one
unfoldable pub decimal_of : ℕ → List ℕ → Option ℕ
decimal_of limit [] = None
decimal_of limit (byte ∷ []) = value_after limit 0 (byte ∷ [])
decimal_of limit (byte ∷ next ∷ bytes) = if byte == 48 then None else value_after limit 0 (byte ∷ next ∷ bytes)

-- the number of 64 bits with a sign whose decimal the bytes are: a decimal, or `-` (45) and a decimal other than `0`
unfoldable pub signed_of : List ℕ → Option ℤ
signed_of bytes =
    if slice_index bytes 0 == 45
    then option_and_then below_zero (decimal_of (2 ^ 63) (drop 1 bytes))
    else option_map pos (decimal_of (2 ^ 63 - 1) bytes)

-- no two numbers that the machine has share a decimal
abbrev pub HasOneNumber : Type 0
HasOneNumber = (m n : ℕ) → m < 2 ^ 64 → n < 2 ^ 64 → decimal m ≡ decimal n → m ≡ n

-- nor do two with a sign
abbrev pub HasOneSignedNumber : Type 0
HasOneSignedNumber = (y z : ℤ) → FitsSigned w64 y → FitsSigned w64 z → signed_decimal y ≡ signed_decimal z → y ≡ z
