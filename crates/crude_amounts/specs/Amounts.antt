-- Amounts of crudes, as the list of their numbers of volume units, crude by crude.
use Rattle.std.specs.Prelude.{ℕ, ◌+◌, ◌-◌, ℤ, pos, ◌+ℤ◌, ◌*ℤ◌, List, [], ◌∷◌}

-- what is there once so much of each crude is added
abbrev pub mix_of : List ℕ → List ℕ → List ℕ
mix_of [] more = []
mix_of (held ∷ rest) [] = held ∷ rest
mix_of (held ∷ rest) (more ∷ others) = (held + more) ∷ mix_of rest others

-- what is left once so much of each crude is taken
abbrev pub rest_of : List ℕ → List ℕ → List ℕ
rest_of [] drawn = []
rest_of (held ∷ rest) [] = held ∷ rest
rest_of (held ∷ rest) (drawn ∷ others) = (held - drawn) ∷ rest_of rest others

-- the sum of the amounts, each times the weight of its crude
abbrev pub weighted_of : List ℕ → List ℤ → ℤ
weighted_of [] weights = pos 0
weighted_of (amount ∷ amounts) [] = pos 0
weighted_of (amount ∷ amounts) (weight ∷ weights) = (weight *ℤ pos amount) +ℤ weighted_of amounts weights
