-- What holds of normal words and blocked operations, whatever the masks.
use Rattle.std.specs.Prelude.{◌≡◌, ℕ, List, [], ◌∷◌, ◌++◌, ◌↔◌, IsBitSet}
use Rattle.slot_automaton.specs.Normal.{IsNormal}
use Rattle.slot_automaton.specs.Blocked.{next_blocked, blocked_after, ClosesPart}

-- the empty word is normal
abbrev pub EmptyIsNormal : Type 0
EmptyIsNormal = (masks : List ℕ) → IsNormal masks []

-- each part of a normal word is normal, so each of its prefixes
abbrev pub PartsAreNormal : Type 0
PartsAreNormal = (masks before word after : List ℕ) → IsNormal masks (before ++ word ++ after) → IsNormal masks word

-- after a word, exactly those operations are blocked that would close a part that is out of order
abbrev pub BlockedAreClosing : Type 0
BlockedAreClosing = (masks word : List ℕ) (a : ℕ) → IsBitSet (blocked_after masks word) a ↔ ClosesPart masks word a

-- a normal word stays normal by one more letter exactly where that letter is not blocked
abbrev pub NormalGrows : Type 0
NormalGrows =
    (masks word : List ℕ) (a : ℕ)
    → IsNormal masks (word ++ a ∷ []) ↔ (IsNormal masks word × ¬ IsBitSet (blocked_after masks word) a)

-- one more letter takes the blocked set to the next one
abbrev pub BlockedGrow : Type 0
BlockedGrow =
    (masks word : List ℕ) (x : ℕ) → blocked_after masks (word ++ x ∷ [])
    ≡ next_blocked masks (blocked_after masks word) x
