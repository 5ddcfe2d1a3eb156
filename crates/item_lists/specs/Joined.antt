-- Lists that are joined in order.
use Rattle.std.specs.Prelude.{ℕ, zero, suc, List, [], ◌++◌}

-- f 0, then f 1, and so on up to the limit, which is not counted
abbrev pub joined_below : {X : Type 0} → ℕ → (ℕ → List X) → List X
joined_below zero f = []
joined_below (suc n) f = joined_below n f ++ f n
