-- The draw: what a volume taken from mixed crudes holds of each of them, in whole units.
-- Line the crudes up, one after the other. Of the crudes up to any one of them the volume holds their share of
-- the total, rounded down; so each crude gives what the share rises by at it, and nothing is lost.
use Rattle.std.specs.Prelude.{◌≡◌, ℕ, ◌+◌, ◌-◌, ◌*◌, ◌/◌, ◌<◌, List, [], ◌∷◌, length, take, sum, slice_index}

-- what a volume out of a total holds of crudes that make up so much of the total
abbrev pub share_of : ℕ → ℕ → ℕ → ℕ
share_of total volume reached = reached * volume / total

-- the draw of the crudes from here on, where those before make up so much
abbrev pub draw_from : ℕ → ℕ → ℕ → List ℕ → List ℕ
draw_from total volume reached [] = []
draw_from total volume reached (amount ∷ amounts) =
    (share_of total volume (reached + amount) - share_of total volume reached)
    ∷ draw_from total volume (reached + amount) amounts

-- what a draw of the volume takes of each crude
unfoldable pub draw_of : List ℕ → ℕ → List ℕ
draw_of amounts volume = draw_from (sum amounts) volume 0 amounts

-- what the first crudes, so many of them, make up
abbrev pub reached_by : List ℕ → ℕ → ℕ
reached_by amounts count = sum (take count amounts)

-- of each crude the draw takes what the share of the crudes up to it is above that of the crudes before it
abbrev pub DrawsByShares : List ℕ → ℕ → List ℕ → Type 0
DrawsByShares amounts volume drawn =
    (c : ℕ) → c < length amounts →
    slice_index drawn c ≡ share_of (sum amounts) volume (reached_by amounts (c + 1)) - share_of (sum amounts) volume
    (reached_by amounts c)
