-- The part of a whole number that is above 0.
use Rattle.std.specs.Prelude.{◌≡◌, ℕ, ◌+◌, ◌-◌, ◌*◌, ◌≤◌, ℤ, pos, negsuc, ◌+ℤ◌, ◌*ℤ◌, ◌≤ℤ◌}
use Rattle.std.specs.Int.{int_max}

-- the greater of the number and 0
abbrev pub positive_part : ℤ → ℕ
positive_part (pos n) = n
positive_part (negsuc n) = 0

-- the number is at most its positive part, which is the least natural number that it is at most
pub record IsLeastAbove (z : ℤ) (part : ℕ) : Type 0 where
  pub above : z ≤ℤ pos part
  pub least : (n : ℕ) → z ≤ℤ pos n → part ≤ n

-- a natural factor comes out
abbrev pub ScalesWithNaturals : Type 0
ScalesWithNaturals = (k : ℕ) (z : ℤ) → (positive_part (pos k *ℤ z) ≡ k * positive_part z) ×
    (positive_part (z *ℤ pos k) ≡ positive_part z * k)

-- of a sum it is at most the sum
abbrev pub IsSubadditive : Type 0
IsSubadditive = (y z : ℤ) → positive_part (y +ℤ z) ≤ positive_part y + positive_part z

-- a multiple by a number from low to high is at most the greater of the two multiples at the ends, which is the one by
-- low, and the positive part for each step from there
abbrev pub BoundsMultiples : Type 0
BoundsMultiples =
    (z : ℤ) (low high : ℕ) → low ≤ high →
    (int_max (z *ℤ pos low) (z *ℤ pos high) ≡ (z *ℤ pos low) +ℤ pos (positive_part z * (high - low)))
    × ((x : ℕ) → low ≤ x → x ≤ high → (z *ℤ pos x) ≤ℤ ((z *ℤ pos low) +ℤ pos (positive_part z * (high - low))))
