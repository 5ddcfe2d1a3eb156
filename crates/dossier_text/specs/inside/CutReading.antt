-- Reading the line of a cut.
use Rattle.std.specs.Prelude.{ℕ, ◌-◌, ◌^◌, List, [], ◌∷◌, Result, Ok, Err, codes, ℤ}
use Rattle.limits.specs.declared.TheConstants.{MOST_CRUDES}
use Rattle.line_text.specs.Words.{words_of}
use Rattle.line_text.specs.Decimal.{signed_of}
use Rattle.line_text.specs.Reading.{key_at, decimal_at, signed_at}
use Rattle.dossier_text.specs.declared.fault.DossierFault.{DossierFault}
use Rattle.dossier_text.specs.declared.fault.DossierFault.TheVariants.{Line}
use Rattle.dossier_text.specs.declared.dossier.CutLine.{CutLine}
use Rattle.dossier_text.specs.Faults.{◌>>=◌, formed}
use Rattle.dossier_text.specs.inside.TermReading.{few_words}

-- at least one
abbrev pub some_of : {X : Type 0} → ℕ → List X → Result (List X) DossierFault
some_of line [] = Err (Line line)
some_of line (x ∷ xs) = Ok (x ∷ xs)

-- one weight at least, and no more than a plant has crudes at most
unfoldable pub weights_at : ℕ → List (List ℕ) → Result (List ℤ) DossierFault
weights_at line words = do
  weights ← few_words signed_of line MOST_CRUDES words
  some_of line weights

-- the word `cut`, the set of places, the two numbers and the weights
unfoldable pub cut_at : ℕ → List ℕ → Result CutLine DossierFault
cut_at line text = do
  behind_key ← formed line (key_at (codes "cut") (words_of text))
  places ← formed line (decimal_at (2 ^ 64 - 1) behind_key)
  p ← formed line (signed_at places.1)
  q ← formed line (signed_at p.1)
  weights ← weights_at line q.1
  Ok (record { places = places.0; p = p.0; q = q.0; weights = weights })
