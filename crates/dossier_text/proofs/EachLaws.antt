-- Words that are read one after the other.
use Rattle.std.proofs.Common.{◌≡◌, ℕ, ◌≤◌, List, [], ◌∷◌, length, map, Option, Some, Ok, refl, ap, subst, ◌∙◌}
use Rattle.std.specs.List.{AllByRecursion}
use Rattle.std.proofs.lemmas.Option.{same_Some}
use Rattle.line_text.specs.Reading.{◌>>=◌}
use Rattle.line_text.proofs.ReadingLaws.{step_some}
use Rattle.line_text.proofs.WordLaws.{IsWord, AreWords}
use Rattle.dossier_text.specs.Faults.{limited}
use Rattle.dossier_text.specs.inside.TermReading.{each_word, few_words}
use Rattle.dossier_text.proofs.StepLaws.{behind_formed, limited_ok, limited-few}

-- a way to read a word, and a way to write it
pub record ReadsWords {X : Type 0} (read : List ℕ → Option X) (write : X → List ℕ) (Is : X → Type 0) : Type 0 where
  pub read_is : (word : List ℕ) (x : X) → read word ≡ Some x → (word ≡ write x) × Is x
  pub again : (x : X) → Is x → read (write x) ≡ Some x
  pub word : (x : X) → Is x → IsWord (write x)

module _ {X : Type 0} (read : List ℕ → Option X) (write : X → List ℕ) (Is : X → Type 0) (law : ReadsWords read write Is) where
  abbrev Written : List (List ℕ) → List X → Type 0
  Written words xs = (words ≡ map write xs) × AllByRecursion Is xs

  pub each_word-some : (words : List (List ℕ)) (xs : List X) → each_word read words ≡ Some xs → Written words xs
  each_word-some [] xs found = subst (λ (ys : List X). Written [] ys) (same_Some [] xs found) (refl, tt)
  each_word-some (word ∷ words) xs found =
      let first = step_some (read word) (λ x. each_word read words >>= λ others. Some (x ∷ others)) xs found in
      let others = step_some (each_word read words) (λ others. Some (first.0 ∷ others)) xs first.2 in
      let one = law.read_is word first.0 first.1 in
      let more = each_word-some words others.0 others.1 in
      subst (λ (ys : List X). Written (word ∷ words) ys) (same_Some (first.0 ∷ others.0) xs others.2)
      (ap (λ (w : List ℕ). w ∷ words) one.0 ∙ ap (λ (ws : List (List ℕ)). write first.0 ∷ ws) more.0, (one.1, more.1))

  pub each_word-again : (xs : List X) → AllByRecursion Is xs → each_word read (map write xs) ≡ Some xs
  each_word-again [] each = refl
  each_word-again (x ∷ xs) each = rw (law.again x each.0, each_word-again xs each.1) refl

  pub each_is_word : (xs : List X) → AllByRecursion Is xs → AreWords (map write xs)
  each_is_word [] each = tt
  each_is_word (x ∷ xs) each = (law.word x each.0, each_is_word xs each.1)

  pub few_words-ok : (line most : ℕ) (words : List (List ℕ)) (xs : List X) → few_words read line most words ≡ Ok xs → Written words xs × (length xs ≤ most)
  few_words-ok line most words xs found =
      behind_formed line (each_word read words) (λ ys. limited line most (length ys) ys) xs found
      (λ ys is found.
      let few = limited_ok line most (length ys) ys xs found in
      subst (λ (zs : List X). Written words zs × (length zs ≤ most)) few.0 (each_word-some words ys is, few.1))

  pub few_words-again : (line most : ℕ) (xs : List X) → AllByRecursion Is xs → length xs ≤ most → few_words read line most (map write xs) ≡ Ok xs
  few_words-again line most xs each few = rw (each_word-again xs each) (limited-few line most (length xs) xs few)
