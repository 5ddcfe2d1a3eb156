-- The shares of several workers, laid end to end, are the chains of all tasks.
use Rattle.std.proofs.Common.{◌≡◌, ℕ, ◌+◌, None, Option, List, [], ◌∷◌, ◌++◌, ap, refl, sym, ◌∙◌, subst}
use Rattle.std.specs.Prelude.{IsPermutation}
use Rattle.std.specs.List.{AllByRecursion, sum_by}
use Rattle.std.proofs.lemmas.List.{append_assoc}
use Rattle.std.proofs.lemmas.List.Elements.{recursion_from_All}
use Rattle.std.proofs.lemmas.List.Sorted.{IsPermutation-refl, IsPermutation-trans, IsPermutation-sym, IsPermutation-append, IsPermutation-append_comm, IsPermutation-append_left, IsPermutation-append_right, Contains-permutation, sum_by-IsPermutation}
use Rattle.std.proofs.lemmas.List.Sums.{sum_by-cons}
use Rattle.std.proofs.lemmas.Option.{none-some}
use Rattle.slot_box.specs.declared.slot.Slot.{Slot}
use Rattle.slot_box.specs.Splits.{left_of, right_of}
use Rattle.number_counts.specs.Counts.{one, times}
use Rattle.number_counts.proofs.Members.{among-which}
use Rattle.work_chains.specs.Chains.{Noted, AreChains, no_task, in_hand, closes, divides, task_ids}
use Rattle.work_chains.specs.BoxChains.{AreBoxChains, BoxTask, DividesBox}
use Rattle.work_chains.specs.Shares.{IsShare, Share, SharesSettle, all_came, all_notes, all_pushed}
use Rattle.work_chains.proofs.SettledLaw.{chains-settle}

-- ---- chains end to end

module _ {B S : Type 0} (Divides : B → S → Type 0) (left right : B → S → B) where
  abbrev Chains : List (ℕ × B) → List (Noted B S) → List (ℕ × B) → Option (ℕ × B) → Type 0
  Chains = AreChains Divides left right

  chains-append : {taken : List (ℕ × B)} {notes : List (Noted B S)} {handed : List (ℕ × B)} {hand : Option (ℕ × B)} (taken2 : List (ℕ × B))
      (notes2 : List (Noted B S)) (handed2 : List (ℕ × B)) → hand ≡ None → Chains taken notes handed hand → Chains taken2 notes2 handed2 None
      → Chains (taken ++ taken2) (notes ++ notes2) (handed ++ handed2) None
  chains-append taken2 notes2 handed2 ended no_task more = more
  chains-append taken2 notes2 handed2 ended (in_hand task) more = absurd (none-some task (sym ended))
  chains-append taken2 notes2 handed2 ended (closes id box chains) more = closes id box (chains-append taken2 notes2 handed2 ended chains more)
  chains-append taken2 notes2 handed2 ended (divides id box ticket split lawful chains) more =
      divides id box ticket split lawful (chains-append taken2 notes2 handed2 ended chains more)

-- ---- lists of the same tasks

module _ {X : Type 0} where
  interchange : (a b c d : List X) → IsPermutation ((a ++ b) ++ (c ++ d)) ((a ++ c) ++ (b ++ d))
  interchange a b c d =
      subst (λ (l : List X). IsPermutation l ((a ++ c) ++ (b ++ d))) (ap (λ (l : List X). a ++ l) (append_assoc b c d) ∙ sym (append_assoc a b (c ++ d)))
      (subst (IsPermutation (a ++ ((b ++ c) ++ d))) (ap (λ (l : List X). a ++ l) (append_assoc c b d) ∙ sym (append_assoc a c (b ++ d)))
      (IsPermutation-append_right a ((b ++ c) ++ d) ((c ++ b) ++ d) (IsPermutation-append_left d (b ++ c) (c ++ b) (IsPermutation-append_comm b c))))

  -- the same of both in two parts is the same of both together
  both : (xs a b ys c d : List X) → IsPermutation xs (a ++ b) → IsPermutation ys (c ++ d) → IsPermutation (xs ++ ys) ((a ++ c) ++ (b ++ d))
  both xs a b ys c d first second =
      IsPermutation-trans (xs ++ ys) ((a ++ b) ++ (c ++ d)) ((a ++ c) ++ (b ++ d)) (IsPermutation-append xs (a ++ b) ys (c ++ d) first second)
      (interchange a b c d)

times-permutation : (x : ℕ) (xs ys : List BoxTask) → IsPermutation xs ys → times x (task_ids ys) ≡ times x (task_ids xs)
times-permutation x xs ys same = sym (sum ys) ∙ sum_by-IsPermutation (λ (task : BoxTask). one x task.0) xs ys same ∙ sum xs
  where
    sum : (l : List BoxTask) → sum_by (λ (task : BoxTask). one x task.0) l ≡ times x (task_ids l)
    sum [] = refl
    sum (task ∷ l) = sum_by-cons (λ (one_of : BoxTask). one x one_of.0) task l ∙ ap (λ (n : ℕ). one x task.0 + n) (sum l)

-- ---- all shares

abbrev all_taken : List Share → List BoxTask
all_taken [] = []
all_taken (share ∷ shares) = share.taken ++ all_taken shares

abbrev all_handed : List Share → List BoxTask
all_handed [] = []
all_handed (share ∷ shares) = share.handed ++ all_handed shares

abbrev all_kept : List Share → List BoxTask
all_kept [] = []
all_kept (share ∷ shares) = share.kept ++ all_kept shares

all-chains : (shares : List Share) → AllByRecursion IsShare shares → AreBoxChains (all_taken shares) (all_notes shares) (all_handed shares) None
all-chains [] each = no_task
all-chains (share ∷ shares) each =
    chains-append DividesBox left_of right_of (all_taken shares) (all_notes shares) (all_handed shares) refl each.0.chains (all-chains shares each.1)

all-takes : (shares : List Share) → AllByRecursion IsShare shares → IsPermutation (all_taken shares) (all_came shares ++ all_kept shares)
all-takes [] each = IsPermutation-refl []
all-takes (share ∷ shares) each =
    both share.taken share.came share.kept (all_taken shares) (all_came shares) (all_kept shares) each.0.takes (all-takes shares each.1)

all-hands : (shares : List Share) → AllByRecursion IsShare shares → IsPermutation (all_handed shares) (all_pushed shares ++ all_kept shares)
all-hands [] each = IsPermutation-refl []
all-hands (share ∷ shares) each =
    both share.handed share.pushed share.kept (all_handed shares) (all_pushed shares) (all_kept shares) each.0.hands (all-hands shares each.1)

-- what all took is the root's task and what all handed on
takes-all : (root : List Slot) (shares : List Share) → AllByRecursion IsShare shares →
    IsPermutation (all_came shares) ((0, root) ∷ all_pushed shares) → IsPermutation (all_taken shares) ((0, root) ∷ all_handed shares)
takes-all root shares each came =
    let first : BoxTask = (0, root) in
    let kept = all_kept shares in
    IsPermutation-trans (all_taken shares) (all_came shares ++ kept) (first ∷ all_handed shares) (all-takes shares each)
    (IsPermutation-trans (all_came shares ++ kept) ((first ∷ all_pushed shares) ++ kept) (first ∷ all_handed shares)
    (IsPermutation-append_left kept (all_came shares) (first ∷ all_pushed shares) came)
    (IsPermutation-append_right (first ∷ []) (all_pushed shares ++ kept) (all_handed shares)
    (IsPermutation-sym (all_handed shares) (all_pushed shares ++ kept) (all-hands shares each))))

pub shares-settle : SharesSettle
shares-settle root t shares each came tickets =
    let by = recursion_from_All IsShare shares each in
    let all = takes-all root shares by came in
    chains-settle root t (all_taken shares) (all_handed shares) (all_notes shares) (all-chains shares by)
    (record {
      counts = λ x. sym (times-permutation x (all_taken shares) ((0, root) ∷ all_handed shares) all);
      tasks = λ task there.
          among-which (0, root) (all_handed shares) task (Contains-permutation (all_taken shares) ((0, root) ∷ all_handed shares) task all there);
    })
    tickets
