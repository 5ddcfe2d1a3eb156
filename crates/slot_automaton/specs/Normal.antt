-- Normal words. Words that differ by swaps of independent neighbours mean the same, and the normal
-- ones are kept: no operation comes late that could have come before a greater one.
use Rattle.std.specs.Prelude.{◌≡◌, ℕ, ◌<◌, ◌≤◌, List, ◌∷◌, ◌++◌, length, take, All}
use Rattle.slot_automaton.specs.Independence.{IsIndependent}

-- the part `b u a` of a word is out of order: `a` is less than `b`, and independent of `b` and of each
-- letter of `u`, so that it could have come before `b`
pub record IsOutOfOrder (masks : List ℕ) (b : ℕ) (u : List ℕ) (a : ℕ) : Type 0 where
  pub less : a < b
  pub of_first : IsIndependent masks a b
  pub of_between : All (λ x. IsIndependent masks a x) u

-- no part of the word is out of order
abbrev pub IsNormal : List ℕ → List ℕ → Type 0
IsNormal masks word =
    (before u after : List ℕ) (b a : ℕ) → word ≡ before ++ b ∷ u ++ a ∷ after → ¬ IsOutOfOrder masks b u a

-- the first `place` letters are the shortest prefix of the word that is not normal
pub record IsFirstRefused (masks word : List ℕ) (place : ℕ) : Type 0 where
  pub some : 1 ≤ place
  pub within : place ≤ length word
  pub refused : ¬ IsNormal masks (take place word)
  pub shorter : (k : ℕ) → k < place → IsNormal masks (take k word)
