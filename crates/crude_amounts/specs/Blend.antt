-- How near a draw comes to the mix that it is taken from.
use Rattle.std.specs.Prelude.{◌≡◌, ℕ, ◌+◌, ◌*◌, ◌≤◌, ℤ, pos, ◌-ℤ◌, ◌*ℤ◌, List, [], ◌∷◌, length, sum, unsigned_abs}
use Rattle.crude_amounts.specs.Amounts.{weighted_of}

-- by how much the weights of neighbouring crudes differ, in all
abbrev pub variation_of : List ℤ → ℕ
variation_of [] = 0
variation_of (weight ∷ []) = 0
variation_of (weight ∷ next ∷ weights) = unsigned_abs (next -ℤ weight) + variation_of (next ∷ weights)

-- Whatever the crudes weigh, the draw weighs what its share of the mix would, but for one variation of the weights.
-- Both sides are multiplied by the total, so that they are whole numbers.
abbrev pub IsNearlyShared : List ℕ → ℕ → List ℕ → Type 0
IsNearlyShared amounts volume drawn =
    (weights : List ℤ) → length weights ≡ length amounts →
    unsigned_abs ((pos (sum amounts) *ℤ weighted_of drawn weights) -ℤ (pos volume *ℤ weighted_of amounts weights))
    ≤ sum amounts * variation_of weights
