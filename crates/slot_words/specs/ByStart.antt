-- Operations in the order of their starts.
use Rattle.std.specs.Prelude.{◌≡◌, ℕ, ◌==◌, Bool, List}
use Rattle.std.specs.List.{filter}
use Rattle.std.specs.List.Sorted.{IsPermutation, IsNonDecreasingBy}
use Rattle.replay_core.specs.declared.timed.Timed.{Timed}

-- the operation starts at the minute
abbrev pub starts_at : ℕ → Timed → Bool
starts_at minute t = t.start == minute

-- the same operations in rising order of starts, where those that start together keep their order
pub record IsByStart (word sorted : List Timed) : Type 0 where
  pub entries : IsPermutation word sorted
  pub rising : IsNonDecreasingBy (λ (t : Timed). t.start) sorted
  pub stable : (minute : ℕ) → filter (starts_at minute) sorted ≡ filter (starts_at minute) word
