-- A cut that was written is read as what it was, and what is read is so written.
use Rattle.std.proofs.Common.{◌≡◌, ℕ, ◌-◌, ◌^◌, ◌≤◌, List, [], ◌∷◌, length, map, Ok, refl, sym, ap, subst, ◌∙◌, arith, ℤ, FitsSigned}
use Rattle.std.specs.Prelude.{codes}
use Rattle.std.specs.Int.{w64}
use Rattle.std.specs.Fmt.{signed_decimal}
use Rattle.std.specs.List.{AllByRecursion}
use Rattle.limits.specs.declared.TheConstants.{MOST_CRUDES}
use Rattle.line_text.specs.Words.{words_of, line_of}
use Rattle.line_text.specs.Decimal.{signed_of}
use Rattle.line_text.proofs.SignedLaws.{signed_of-decimal, signed_of-some}
use Rattle.line_text.proofs.WordLaws.{AreWords, line_of-words_of, words_of-line_of}
use Rattle.line_text.proofs.ReadingLaws.{key_at-key, decimal_at-decimal, signed_at-decimal, decimal_is_word, signed_is_word}
use Rattle.dossier_text.specs.declared.fault.DossierFault.TheVariants.{Line}
use Rattle.dossier_text.specs.declared.dossier.CutLine.{CutLine}
use Rattle.dossier_text.specs.Nodes.{cut_words}
use Rattle.dossier_text.specs.Ranges.{IsCutLine}
use Rattle.dossier_text.specs.inside.TermReading.{few_words}
use Rattle.dossier_text.specs.inside.CutReading.{some_of, weights_at, cut_at}
use Rattle.dossier_text.proofs.StepLaws.{same_Ok, no_fault, behind, behind_key, behind_decimal, behind_signed}
use Rattle.dossier_text.proofs.EachLaws.{ReadsWords, few_words-ok, few_words-again, each_is_word}

signed_words : ReadsWords signed_of signed_decimal (FitsSigned w64)
signed_words = record { read_is = signed_of-some; again = signed_of-decimal; word = signed_is_word }

-- ---- weights

pub record AreWeights (weights : List ℤ) : Type 0 where
  pub each : AllByRecursion (FitsSigned w64) weights
  pub few : length weights ≤ MOST_CRUDES
  pub some : 1 ≤ length weights

some_of-ok : (line : ℕ) (xs ys : List ℤ) → some_of line xs ≡ Ok ys → (xs ≡ ys) × (1 ≤ length ys)
some_of-ok line [] ys found = no_fault (Line line) ys found
some_of-ok line (x ∷ xs) ys found =
    let same = same_Ok (x ∷ xs) ys found in
    (same, subst (λ (zs : List ℤ). 1 ≤ length zs) same (omega arith))

some_of-again : (line : ℕ) (xs : List ℤ) → 1 ≤ length xs → some_of line xs ≡ Ok xs
some_of-again line [] some = absurd (omega (arith, some))
some_of-again line (x ∷ xs) some = refl

weights_at-ok : (line : ℕ) (words : List (List ℕ)) (weights : List ℤ) → weights_at line words ≡ Ok weights → (words ≡ map signed_decimal weights) ×
    AreWeights weights
unfolding weights_at
weights_at-ok line words weights found =
    behind (few_words signed_of line MOST_CRUDES words) (some_of line) weights found
    (λ read is found.
    let text = few_words-ok signed_of signed_decimal (FitsSigned w64) signed_words line MOST_CRUDES words read is in
    let some = some_of-ok line read weights found in
    let same = some.0 in
    subst (λ (ws : List ℤ). (words ≡ map signed_decimal ws) × AreWeights ws) same
    (text.0.0, record { each = text.0.1; few = text.1; some = subst (λ (ws : List ℤ). 1 ≤ length ws) (sym same) some.1 }))

weights_at-again : (line : ℕ) (weights : List ℤ) → AreWeights weights → weights_at line (map signed_decimal weights) ≡ Ok weights
unfolding weights_at
weights_at-again line weights are = rw (few_words-again signed_of signed_decimal (FitsSigned w64) signed_words line MOST_CRUDES weights are.each are.few)
    (some_of-again line weights are.some)

-- ---- cuts

pub cut_at-ok : (line : ℕ) (text : List ℕ) (cut : CutLine) → cut_at line text ≡ Ok cut → (text ≡ line_of (cut_words cut)) × IsCutLine cut
unfolding cut_at
cut_at-ok line text cut found =
    behind_key line (codes "cut") (words_of text) _ cut found
    (λ w1 e1 found.
    behind_decimal line (2 ^ 64 - 1) w1 _ cut found (omega arith)
    (λ places w2 e2 l2 found.
    behind_signed line w2 _ cut found
    (λ p w3 e3 l3 found.
    behind_signed line w3 _ cut found
    (λ q w4 e4 l4 found.
    behind (weights_at line w4) _ cut found
    (λ weights is found.
    let read = weights_at-ok line w4 weights is in
    let made : CutLine = record { places = places; p = p; q = q; weights = weights } in
    let words : words_of text ≡ cut_words made = e1 ∙ rw (e2, e3, e4, read.0) refl in
    let fits : IsCutLine made = record { places = omega arith; p = l3; q = l4; some = read.1.some; few = read.1.few; weights = read.1.each } in
    subst (λ (c : CutLine). (text ≡ line_of (cut_words c)) × IsCutLine c) (same_Ok made cut found) (sym (line_of-words_of text) ∙ ap line_of words, fits))))))

pub cut_words_are_words : (cut : CutLine) → IsCutLine cut → AreWords (cut_words cut)
cut_words_are_words cut fits = (
  record { unspaced = refl; unbroken = refl },
  (
    decimal_is_word cut.places fits.places,
    (signed_is_word cut.p fits.p, (signed_is_word cut.q fits.q, each_is_word signed_of signed_decimal (FitsSigned w64) signed_words cut.weights fits.weights)),
  ),
)

pub cut_at-again : (line : ℕ) (cut : CutLine) → IsCutLine cut → cut_at line (line_of (cut_words cut)) ≡ Ok cut
unfolding cut_at
cut_at-again line cut fits =
    rw (
      words_of-line_of (codes "cut") _ (cut_words_are_words cut fits),
      key_at-key,
      decimal_at-decimal (2 ^ 64 - 1) cut.places _ (omega (arith, fits.places)) (omega arith),
      signed_at-decimal cut.p _ fits.p,
      signed_at-decimal cut.q _ fits.q,
      weights_at-again line cut.weights (record { each = fits.weights; few = fits.few; some = fits.some }),
    )
    refl
