-- What improved multipliers are compared with: one row on its own.
use Rattle.std.specs.Prelude.{ℕ, ◌^◌, ◌<◌, List, length, replicate, slice_set, ℤ, ◌≤ℤ◌}
use Rattle.linear_form.specs.declared.row.RowTerm.{RowTerm}
use Rattle.linear_form.specs.Bounds.{Bounds}
use Rattle.linear_form.specs.Rows.{RowForm}
use Rattle.dual_bound.specs.Dual.{dual_value}

-- of n multipliers that of row r is y, and the others are 0
abbrev pub single : ℕ → ℕ → ℕ → List ℕ
single n r y = slice_set (replicate n 0) r y

-- the number is at most the value of each single multiplier that is a power of two up to 2 ^ 20
abbrev pub IsBelowPowers : List RowForm → Bounds → List RowTerm → ℤ → ℕ → Type 0
IsBelowPowers rows bounds objective value r =
    (k : ℕ) → k < 21 → value ≤ℤ dual_value rows bounds objective (single (length rows) r (2 ^ k)) 1

-- and so for every row
abbrev pub IsBelowSingles : List RowForm → Bounds → List RowTerm → ℤ → Type 0
IsBelowSingles rows bounds objective value =
    (r : ℕ) → r < length rows → IsBelowPowers rows bounds objective value r
