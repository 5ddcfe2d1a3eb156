-- Where an operation takes its place in a normal word: behind the last that it depends on, and there before the first
-- that is greater.
use Rattle.std.specs.Prelude.{ℕ, ◌+◌, ◌&&◌, ◌||◌, not, nat_lt, nat_le, if◌then◌else◌, List, [], ◌∷◌, Bool}
use Rattle.std.specs.List.{list_all}
use Rattle.plant_model.specs.declared.parts.Parts.{Parts}
use Rattle.plant_model.specs.Relations.{independent_of}
use Rattle.replay_core.specs.declared.timed.Timed.{Timed}

-- it is less than the first, and independent of all
abbrev pub comes_before : Parts → ℕ → Timed → List Timed → Bool
comes_before parts v s later = nat_lt v s.op && list_all (λ (r : Timed). independent_of parts v r.op) (s ∷ later)

-- how many operations it has before it
abbrev pub seat_of : Parts → ℕ → List Timed → ℕ
seat_of parts v [] = 0
seat_of parts v (s ∷ later) = if comes_before parts v s later then 0 else 1 + seat_of parts v later

-- the word with it in its place
abbrev pub seated : Parts → Timed → List Timed → List Timed
seated parts t [] = t ∷ []
seated parts t (s ∷ later) = if comes_before parts t.op s later then t ∷ s ∷ later else s ∷ seated parts t later

-- one more operation behind the word: the seat is behind that one too where they are not independent, and where nothing
-- greater was there and this is not greater either
abbrev pub stands_behind : Parts → ℕ → ℕ → Bool → Bool
stands_behind parts v op none_greater = not (independent_of parts v op) || (none_greater && nat_le op v)
