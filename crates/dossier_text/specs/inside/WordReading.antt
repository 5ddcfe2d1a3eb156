-- Reading the one word that is left of a line.
use Rattle.std.specs.Prelude.{ℕ, List, [], ◌∷◌, Result, Ok, Err}
use Rattle.line_text.specs.Reading.{decimal_at, end_at}
use Rattle.dossier_text.specs.declared.fault.DossierFault.{DossierFault}
use Rattle.dossier_text.specs.declared.fault.DossierFault.TheVariants.{Line}
use Rattle.dossier_text.specs.Faults.{◌>>=◌, formed}

-- the word
unfoldable pub word_at : ℕ → List (List ℕ) → Result (List ℕ) DossierFault
word_at line [] = Err (Line line)
word_at line (word ∷ words) = do
  none ← formed line (end_at words)
  Ok word

-- the decimal of at most limit that it is
unfoldable pub number_at : ℕ → ℕ → List (List ℕ) → Result ℕ DossierFault
number_at line limit words = do
  number ← formed line (decimal_at limit words)
  none ← formed line (end_at number.1)
  Ok number.0
