-- Quotients rounded toward minus infinity.
use Rattle.std.specs.Prelude.{ℕ, ◌/◌, ◌<◌, ℤ, pos, negsuc, ◌*ℤ◌, ◌≤ℤ◌}

-- the number divided by q, rounded toward minus infinity
abbrev pub floor_of : ℤ → ℕ → ℤ
floor_of (pos n) q = pos (n / q)
floor_of (negsuc n) q = negsuc (n / q)

-- it is the greatest whole number of which the q-fold is at most the number
pub record IsFloor (z : ℤ) (q : ℕ) (floor : ℤ) : Type 0 where
  pub below : (pos q *ℤ floor) ≤ℤ z
  pub greatest : (x : ℤ) → (pos q *ℤ x) ≤ℤ z → x ≤ℤ floor

-- rounding down gives it
abbrev pub FloorsAreGreatest : Type 0
FloorsAreGreatest = (z : ℤ) (q : ℕ) → 0 < q → IsFloor z q (floor_of z q)
