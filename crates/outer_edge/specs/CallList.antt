-- Calls that are to fail.
use Rattle.std.specs.Prelude.{ℕ, List, Bool, ◌==◌}
use Rattle.std.specs.List.{list_any}

-- whether the call of that number stands in the list
abbrev pub is_listed : List ℕ → ℕ → Bool
is_listed calls number = list_any (λ call. call == number) calls
