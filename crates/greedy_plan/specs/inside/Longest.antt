-- The longest time in which a volume can be moved that is the greatest for it.
use Rattle.std.specs.Prelude.{ℕ, ◌*◌, ◌/◌, ◌≤◌, Option, None, Some}

-- the greatest volume for so many minutes, at the greatest rate
abbrev pub volume_in : ℕ → ℕ → ℕ
volume_in greatest minutes = greatest * minutes / 1440

-- moved in so many minutes it is not moved too slowly
abbrev pub Fits : ℕ × ℕ → ℕ → Type 0
Fits rate minutes = rate.0 * minutes ≤ 1440 * volume_in rate.1 minutes

-- of the times up to the limit in which the greatest volume is not moved too slowly it is the longest
pub record IsLongestTime (rate : ℕ × ℕ) (limit minutes : ℕ) : Type 0 where
  pub some : 1 ≤ minutes
  pub most : minutes ≤ limit
  pub fits : Fits rate minutes
  pub longest : (other : ℕ) → other ≤ limit → Fits rate other → other ≤ minutes

-- the longest of them, or none
abbrev pub IsLongest : ℕ × ℕ → ℕ → Option ℕ → Type 0
IsLongest rate limit None = (minutes : ℕ) → 1 ≤ minutes → minutes ≤ limit → Fits rate minutes → ⊥
IsLongest rate limit (Some minutes) = IsLongestTime rate limit minutes
