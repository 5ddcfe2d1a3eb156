-- The first of the numbers up to a limit that pass a test, from above or from below.
use Rattle.std.specs.Prelude.{ℕ, zero, suc, Bool, Option, Some, None, if◌then◌else◌}
use Rattle.std.specs.Option.{option_or}

-- the number, where it passes
abbrev pub where_passing : (ℕ → Bool) → ℕ → Option ℕ
where_passing passes n = if passes n then Some n else None

-- the greatest that passes, and none where none does
abbrev pub greatest_up_to : ℕ → (ℕ → Bool) → Option ℕ
greatest_up_to zero passes = where_passing passes zero
greatest_up_to (suc n) passes = option_or (where_passing passes (suc n)) (greatest_up_to n passes)

-- the least that passes, and none where none does
abbrev pub least_up_to : ℕ → (ℕ → Bool) → Option ℕ
least_up_to zero passes = where_passing passes zero
least_up_to (suc n) passes = option_or (least_up_to n passes) (where_passing passes (suc n))
