-- Plain guesses at what a box is worth: by no row, or by one row taken a power of two times.
use Rattle.std.specs.Prelude.{◌≡◌, ℕ, ◌^◌, ◌≤◌, ℤ, ◌≤ℤ◌, Bool, ◌||◌, ◌==◌, IsTrue, List, [], ◌∷◌}
use Rattle.slot_box.specs.declared.slot.Slot.{Slot}
use Rattle.slot_box.specs.declared.term.Term.{Term}
use Rattle.slot_box.specs.declared.term.Term.TheVariants.{Row, Cut}
use Rattle.leaf_value.specs.LeafValue.{dual_value_of}
use Rattle.leaf_value.specs.Settings.{Setting, has_row}

-- the families of which a plain guess may take a row: 2, volumes, 5, totals of tanks, and 9, demands
abbrev pub is_plain_family : ℕ → Bool
is_plain_family family = family == 2 || family == 5 || family == 9

-- a power of two from 1 to 2 ^ 20
abbrev pub IsSmallPower : ℕ → Type 0
IsSmallPower y = (k : ℕ) × (k ≤ 20) × (y ≡ 2 ^ k)

-- a plain guess has no entry, or one, which names such a row and has such a power for its multiplier
abbrev pub IsPlainGuess : Setting → List Term → Type 0
IsPlainGuess setting [] = Unit {0}
IsPlainGuess setting (Row name y ∷ []) =
    IsTrue (is_plain_family name.family) × IsTrue (has_row setting name) × IsSmallPower y
IsPlainGuess setting (Cut cut slot op y ∷ []) = ⊥
IsPlainGuess setting (first ∷ second ∷ rest) = ⊥

-- the value is no greater than what any of them gives the box, over the denominator 1
abbrev pub IsBelowPlainGuesses : Setting → List Slot → ℤ → Type 0
IsBelowPlainGuesses setting box value =
    (guess : List Term) → IsPlainGuess setting guess → value ≤ℤ dual_value_of setting box 1 guess
