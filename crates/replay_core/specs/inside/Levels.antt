-- How much the places hold while operations run that break no rule.
use Rattle.std.specs.Prelude.{◌≡◌, ◌≢◌, ℕ, ◌+◌, ◌*◌, ◌^◌, ◌<◌, ◌≤◌, false, List, length, sum}
use Rattle.limits.specs.declared.TheConstants.{MOST_VOLUME}
use Rattle.plant_model.specs.declared.parts.Parts.{Parts}
use Rattle.plant_model.specs.Parts.{crude_count_of, place_count_of, place_of}
use Rattle.replay_core.specs.State.{held_of}
use Rattle.replay_core.specs.Rules.{is_unit}

-- after n operations each place has one amount for each crude; what a vessel or a tank holds is at most the
-- greatest volume, and what a unit has got at most so much for each operation, and once more
pub record HoldsWithin (parts : Parts) (n : ℕ) (state : List (List ℕ)) : Type 0 where
  pub count : length state ≡ place_count_of parts
  pub crudes : (p : ℕ) → p < place_count_of parts → length (held_of state p) ≡ crude_count_of parts
  pub tanks : (p : ℕ) → p < place_count_of parts → is_unit (place_of parts p).kind ≡ false → sum (held_of state p)
      ≤ MOST_VOLUME
  pub all : (p : ℕ) → p < place_count_of parts → sum (held_of state p) ≤ MOST_VOLUME * (n + 1)

-- the volume can be drawn from one place and added to the other
pub record CanMove (state : List (List ℕ)) (from to volume : ℕ) : Type 0 where
  pub source : from < length state
  pub target : to < length state
  pub apart : from ≢ to
  pub some : 1 ≤ volume
  pub there : volume ≤ sum (held_of state from)
  pub source_total : sum (held_of state from) ≤ 2 ^ 32
  pub same_crudes : length (held_of state to) ≡ length (held_of state from)
  pub target_total : sum (held_of state to) + volume ≤ 2 ^ 40
