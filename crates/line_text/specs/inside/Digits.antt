-- Digits read one by one.
use Rattle.std.specs.Prelude.{ℕ, zero, suc, ◌+◌, ◌-◌, ◌*◌, ◌&&◌, nat_le, List, [], ◌∷◌, Option, Some, None, if◌then◌else◌, ℤ, negsuc}
use Rattle.std.specs.Option.{option_and_then}
use Rattle.std.specs.Char.{is_ascii_digit}

-- one digit more (48 is `0`): the value then, where it is at most limit
unfoldable pub with_digit : ℕ → ℕ → ℕ → Option ℕ
with_digit limit value byte =
    if is_ascii_digit byte && nat_le (value * 10 + (byte - 48)) limit then Some (value * 10 + (byte - 48)) else None

-- the value of digits that follow those of value
abbrev pub value_after : ℕ → ℕ → List ℕ → Option ℕ
value_after limit value [] = Some value
value_after limit value (byte ∷ bytes) = option_and_then (λ next. value_after limit next bytes)
    (with_digit limit value byte)

-- the number below 0 of this size
abbrev pub below_zero : ℕ → Option ℤ
below_zero zero = None
below_zero (suc n) = Some (negsuc n)
