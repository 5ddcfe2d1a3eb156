-- The words of a board that hold margins, which may be missing.
use Rattle.std.specs.Prelude.{ℕ, zero, suc, ℤ, pos, ◌-ℤ◌, ◌+ℤ◌, ◌+◌, ◌^◌, ◌≤ℤ◌, Option, Some, None}
use Rattle.limits.specs.declared.TheConstants.{MOST_OFFER}

-- the margin that a word holds: 0 holds none, any other a margin that is less by 2^62
abbrev pub margin_in : ℕ → Option ℤ
margin_in zero = None
margin_in (suc n) = Some (pos (suc n) -ℤ pos (2 ^ 62))

-- the margin may be offered
pub record IsOffer (margin : ℤ) : Type 0 where
  pub least : pos 0 ≤ℤ (margin +ℤ pos MOST_OFFER)
  pub most : margin ≤ℤ pos MOST_OFFER

-- the greatest word that holds such a margin
abbrev pub most_word : ℕ
most_word = 2 ^ 62 + MOST_OFFER
