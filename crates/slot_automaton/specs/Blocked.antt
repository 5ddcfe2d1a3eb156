-- Blocked operations, as a set that is kept while a word is read.
use Rattle.std.specs.Prelude.{◌≡◌, ℕ, ◌-◌, ◌^◌, ◌<◌, ◌⊎◌, ◌↔◌, List, ◌∷◌, ◌++◌, slice_index, fold, IsBitSet, bit_and, bit_or}
use Rattle.slot_automaton.specs.Independence.{IsIndependent}
use Rattle.slot_automaton.specs.Normal.{IsOutOfOrder}

-- after `x` is read, those are blocked that are independent of `x`, and were blocked before or are less than `x`
abbrev pub IsNextBlocked : List ℕ → ℕ → ℕ → ℕ → Type 0
IsNextBlocked masks blocked x next =
    (a : ℕ) → IsBitSet next a ↔ (IsIndependent masks a x × (IsBitSet blocked a ⊎ (a < x)))

-- that set as a mask
abbrev pub next_blocked : List ℕ → ℕ → ℕ → ℕ
next_blocked masks blocked x = bit_and (bit_or blocked (2 ^ x - 1)) (slice_index masks x)

-- the operations that are blocked after the letters of a word, none at first
abbrev pub blocked_after : List ℕ → List ℕ → ℕ
blocked_after masks word = fold (next_blocked masks) 0 word

-- with `a` at its end, the word would end in a part that is out of order
abbrev pub ClosesPart : List ℕ → List ℕ → ℕ → Type 0
ClosesPart masks word a =
    (before u : List ℕ) × (b : ℕ) × (word ≡ before ++ b ∷ u) × IsOutOfOrder masks b u a
