-- How great the sums are that a margin is made of.
use Rattle.std.specs.Prelude.{ℕ, ◌*◌, ◌^◌, ℤ, pos, neg_ℤ, ◌≤ℤ◌}
use Rattle.limits.specs.declared.TheConstants.{MOST_DEMURRAGE, MOST_MARGIN, MOST_VOLUME}

-- n operations earn or lose at most what as many of the greatest volume would at the greatest margin
pub record EarnsWithin (n : ℕ) (earned : ℤ) : Type 0 where
  pub low : neg_ℤ (pos (MOST_MARGIN * MOST_VOLUME * n)) ≤ℤ earned
  pub high : earned ≤ℤ pos (MOST_MARGIN * MOST_VOLUME * n)

-- no vessel pays more: minutes are of 32 bits
abbrev pub MOST_PAID : ℕ
MOST_PAID = MOST_DEMURRAGE * 2 ^ 32
