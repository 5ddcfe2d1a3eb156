-- Sums over the numbers below a limit.
use Rattle.std.specs.Prelude.{ℕ, zero, suc, ◌+◌, Bool, true, false}

-- f 0 + f 1 + .. up to the limit, which is not counted
abbrev pub sum_below : ℕ → (ℕ → ℕ) → ℕ
sum_below zero f = 0
sum_below (suc n) f = sum_below n f + f n

-- the number where the test holds, else 0
abbrev pub when : Bool → ℕ → ℕ
when true n = n
when false n = 0
