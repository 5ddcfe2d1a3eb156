-- Reading the entries of a leaf.
use Rattle.std.specs.Prelude.{ℕ, ◌-◌, ◌^◌, List, [], ◌∷◌, length, Option, Some, Result, if◌then◌else◌, codes}
use Rattle.std.specs.Str.{bytes_eq}
use Rattle.limits.specs.declared.TheConstants.{MOST_ROWS}
use Rattle.line_text.specs.Words.{parts_at}
use Rattle.line_text.specs.Decimal.{decimal_of}
use Rattle.line_text.specs.Reading.{◌>>=◌, number_before}
use Rattle.slot_box.specs.declared.term.Term.{Term}
use Rattle.slot_box.specs.declared.term.Term.TheVariants.{Row, Cut}
use Rattle.dossier_text.specs.declared.fault.DossierFault.{DossierFault}
use Rattle.dossier_text.specs.Faults.{formed, limited}
use Rattle.dossier_text.specs.Faults as faults

-- what each word says
abbrev pub each_word : {X : Type 0} → (List ℕ → Option X) → List (List ℕ) → Option (List X)
each_word read [] = Some []
each_word read (word ∷ words) = do
  first ← read word
  others ← each_word read words
  Some (first ∷ others)

-- what each word says, of at most so many words; whether each says something is asked first
abbrev pub few_words : {X : Type 0} → (List ℕ → Option X) → ℕ → ℕ → List (List ℕ) → Result (List X) DossierFault
few_words read line most words = faults.◌>>=◌ (formed line (each_word read words))
    (λ xs. limited line most (length xs) xs)

-- behind the family: four numbers of 16 bits, and the multiplier behind `=` (61)
unfoldable pub row_of : List ℕ → List ℕ → Option Term
row_of digits rest = do
  family ← decimal_of (2 ^ 8 - 1) digits
  a ← number_before 46 (2 ^ 16 - 1) rest
  b ← number_before 46 (2 ^ 16 - 1) a.1
  c ← number_before 46 (2 ^ 16 - 1) b.1
  d ← number_before 61 (2 ^ 16 - 1) c.1
  y ← decimal_of (2 ^ 64 - 1) d.1
  Some (Row (record { family = family; a = a.0; b = b.0; c = c.0; d = d.0 }) y)

-- behind the word `cut`: the cut's number, the slot, the operation, and the multiplier
unfoldable pub cut_row_of : List ℕ → Option Term
cut_row_of rest = do
  cut ← number_before 46 (2 ^ 32 - 1) rest
  slot ← number_before 46 (2 ^ 32 - 1) cut.1
  op ← number_before 61 (2 ^ 8 - 1) slot.1
  y ← decimal_of (2 ^ 64 - 1) op.1
  Some (Cut cut.0 slot.0 op.0 y)

-- one entry: before its first dot (46) stands the family, or the word `cut`
unfoldable pub term_of : List ℕ → Option Term
term_of word = do
  parts ← parts_at 46 word
  if bytes_eq parts.0 (codes "cut") then cut_row_of parts.1 else row_of parts.0 parts.1

-- no more entries than a leaf has at most
abbrev pub terms_at : ℕ → List (List ℕ) → Result (List Term) DossierFault
terms_at line words = few_words term_of line MOST_ROWS words
