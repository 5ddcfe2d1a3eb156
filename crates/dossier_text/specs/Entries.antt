-- Words of a dossier: the entries of leaves, and numbers that may be none.
use Rattle.std.specs.Prelude.{ℕ, ℤ, List, ◌∷◌, ◌++◌, Option, Some, None, decimal, codes}
use Rattle.std.specs.Fmt.{signed_decimal}
use Rattle.slot_box.specs.declared.term.Term.{Term}
use Rattle.slot_box.specs.declared.term.Term.TheVariants.{Row, Cut}

-- the row's five numbers with dots (46) between them, and the multiplier behind `=` (61); for a cut, the word `cut` and
-- its three numbers
abbrev pub term_word : Term → List ℕ
term_word (Row name y) =
    decimal name.family ++ 46 ∷ decimal name.a ++ 46 ∷ decimal name.b ++ 46 ∷ decimal name.c ++ 46 ∷ decimal name.d
    ++ 61 ∷ decimal y
term_word (Cut cut slot op y) =
    codes "cut" ++ 46 ∷ decimal cut ++ 46 ∷ decimal slot ++ 46 ∷ decimal op ++ 61 ∷ decimal y

-- a number, or the word `none`
abbrev pub signed_word : Option ℤ → List ℕ
signed_word None = codes "none"
signed_word (Some number) = signed_decimal number
