-- One pick more.
use Rattle.std.proofs.Common.{◌≡◌, ℕ, ◌+◌, add-one, refl}
use Rattle.plant_maker.specs.Picks.{next_state, state_after}

pub state_after_more : (number picks : ℕ) → state_after number (picks + 1) ≡ next_state (state_after number picks)
unfolding state_after
state_after_more number picks = rw add-one

pub state_after_none : (number : ℕ) → state_after number 0 ≡ number
unfolding state_after
state_after_none number = refl

pub ruleset pick_laws = (state_after_more, state_after_none)
