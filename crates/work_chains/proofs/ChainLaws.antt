-- How chains grow at their end.
use Rattle.std.proofs.Common.{◌≡◌, ℕ, ◌+◌, ◌*◌, Option, Some, None, List, [], ◌∷◌, ◌++◌, refl, sym, subst}
use Rattle.std.proofs.lemmas.Option.{none-some, same_Some}
use Rattle.work_chains.specs.Chains.{Noted, inner_note, leaf_note, AreChains, no_task, in_hand, closes, divides}

module _ {B S : Type 0} (Divides : B → S → Type 0) (left right : B → S → B) where
  abbrev Chains : List (ℕ × B) → List (Noted B S) → List (ℕ × B) → Option (ℕ × B) → Type 0
  Chains = AreChains Divides left right

  takes_next : {taken : List (ℕ × B)} {notes : List (Noted B S)} {handed : List (ℕ × B)} {hand : Option (ℕ × B)} (task : ℕ × B) → hand ≡ None
      → Chains taken notes handed hand → Chains (taken ++ task ∷ []) notes handed (Some task)
  takes_next task ended no_task = in_hand task
  takes_next task ended (in_hand other) = absurd (none-some other (sym ended))
  takes_next task ended (closes id box chains) = closes id box (takes_next task ended chains)
  takes_next task ended (divides id box ticket split lawful chains) = divides id box ticket split lawful (takes_next task ended chains)

  closes_hand : {taken : List (ℕ × B)} {notes : List (Noted B S)} {handed : List (ℕ × B)} {hand : Option (ℕ × B)} (id : ℕ) (box : B) → hand ≡ Some (id, box)
      → Chains taken notes handed hand → Chains taken (notes ++ leaf_note id box ∷ []) handed None
  closes_hand id box is no_task = absurd (none-some (id, box) is)
  closes_hand id box is (in_hand task) =
      subst (λ (t : ℕ × B). Chains (t ∷ []) (leaf_note id box ∷ []) [] None) (sym (same_Some task (id, box) is)) (closes id box no_task)
  closes_hand id box is (closes other bx chains) = closes other bx (closes_hand id box is chains)
  closes_hand id box is (divides other bx ticket split lawful chains) = divides other bx ticket split lawful (closes_hand id box is chains)

  divides_hand : {taken : List (ℕ × B)} {notes : List (Noted B S)} {handed : List (ℕ × B)} {hand : Option (ℕ × B)} (id : ℕ) (box : B) (ticket : ℕ) (split : S)
      → Divides box split → hand ≡ Some (id, box) → Chains taken notes handed hand
      → Chains taken (notes ++ inner_note id box ticket split ∷ []) (handed ++ (2 * ticket + 2, right box split) ∷ []) (Some (2 * ticket + 1, left box split))
  divides_hand id box ticket split lawful is no_task = absurd (none-some (id, box) is)
  divides_hand id box ticket split lawful is (in_hand task) =
      subst (λ (t : ℕ × B). Chains (t ∷ []) (inner_note id box ticket split ∷ []) ((2 * ticket + 2, right box split) ∷ []) (Some
      (2 * ticket + 1, left box split)))
      (sym (same_Some task (id, box) is)) (divides id box ticket split lawful (in_hand (2 * ticket + 1, left box split)))
  divides_hand id box ticket split lawful is (closes other bx chains) = closes other bx (divides_hand id box ticket split lawful is chains)
  divides_hand id box ticket split lawful is (divides other bx t s l chains) = divides other bx t s l (divides_hand id box ticket split lawful is chains)

  pub chains-take : (taken : List (ℕ × B)) (handed : List (ℕ × B)) (notes : List (Noted B S)) (task : ℕ × B) → Chains taken notes handed None
      → Chains (taken ++ task ∷ []) notes handed (Some task)
  chains-take taken handed notes task chains = takes_next task refl chains

  pub chains-close : (taken : List (ℕ × B)) (handed : List (ℕ × B)) (notes : List (Noted B S)) (id : ℕ) (box : B) → Chains taken notes handed (Some (id, box))
      → Chains taken (notes ++ leaf_note id box ∷ []) handed None
  chains-close taken handed notes id box chains = closes_hand id box refl chains

  pub chains-divide : (taken : List (ℕ × B)) (handed : List (ℕ × B)) (notes : List (Noted B S)) (id : ℕ) (box : B) (ticket : ℕ) (split : S) → Divides box split
      → Chains taken notes handed (Some (id, box))
      → Chains taken (notes ++ inner_note id box ticket split ∷ []) (handed ++ (2 * ticket + 2, right box split) ∷ []) (Some (2 * ticket + 1, left box split))
  chains-divide taken handed notes id box ticket split lawful chains = divides_hand id box ticket split lawful refl chains
