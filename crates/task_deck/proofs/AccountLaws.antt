-- What an account says of the tasks of a deck, in whatever order.
use Rattle.std.proofs.Common.{◌≡◌, ◌≢◌, ℕ, zero, suc, ◌+◌, ◌<◌, ◌≤◌, cond, Bool, List, [], ◌∷◌, ◌++◌, length, sym, refl, ap, ◌∙◌, subst, inl, inr, eq-eqb, ne_eqb, arith}
use Rattle.std.specs.Prelude.{IsPermutation}
use Rattle.std.proofs.lemmas.Bool.{cases_eq, cases_lt}
use Rattle.std.proofs.lemmas.List.Sorted.{IsPermutation-refl, IsPermutation-trans, IsPermutation-sym, IsPermutation-cons, IsPermutation-middle, IsPermutation-append_right}
use Rattle.slot_box.specs.Tasks.{TaskParts}
use Rattle.task_deck.specs.Accounts.{AccountsAddUp, AreTaken, Takes, all_of, taken_by, tasks_of}

-- the tasks that so many took, from this number on
abbrev collect : ℕ → ℕ → Takes → List TaskParts
collect from zero takes = []
collect from (suc k) takes = taken_by from takes ++ collect (suc from) k takes

-- ---- one task more

taken-here : (who : ℕ) (task : TaskParts) (takes : Takes) → taken_by who ((who, task) ∷ takes) ≡ task ∷ taken_by who takes
taken-here who task takes = ap (λ (b : Bool). cond b (task ∷ taken_by who takes) (taken_by who takes)) (eq-eqb who who refl)

taken-elsewhere : (other who : ℕ) (task : TaskParts) (takes : Takes) → other ≢ who → taken_by other ((who, task) ∷ takes) ≡ taken_by other takes
taken-elsewhere other who task takes apart = ap (λ (b : Bool). cond b (task ∷ taken_by other takes) (taken_by other takes)) (ne_eqb other who apart)

-- whoever is not among them took it
collect-past : (from k who : ℕ) (task : TaskParts) (takes : Takes) → who < from → collect from k ((who, task) ∷ takes) ≡ collect from k takes
collect-past from zero who task takes less = refl
collect-past from (suc k) who task takes less =
    ap (λ (l : List TaskParts). l ++ collect (suc from) k ((who, task) ∷ takes)) (taken-elsewhere from who task takes (λ same. omega (arith, same, less)))
    ∙ ap (λ (l : List TaskParts). taken_by from takes ++ l) (collect-past (suc from) k who task takes (omega (arith, less)))

-- one of them took it
collect-more : (from k who : ℕ) (task : TaskParts) (takes : Takes) → from ≤ who → who < from + k →
    IsPermutation (task ∷ collect from k takes) (collect from k ((who, task) ∷ takes))
collect-more from zero who task takes least most = absurd (omega (arith, least, most))
collect-more from (suc k) who task takes least most = elim (cases_eq who from) [
  | inl same ↦
      let here : taken_by from ((who, task) ∷ takes) ≡ task ∷ taken_by from takes =
      subst (λ (n : ℕ). taken_by n ((who, task) ∷ takes) ≡ task ∷ taken_by n takes) same (taken-here who task takes) in
      let past = collect-past (suc from) k who task takes (omega (arith, same)) in
      subst (λ (l : List TaskParts). IsPermutation (task ∷ (taken_by from takes ++ collect (suc from) k takes)) (l ++ collect (suc from) k ((who, task) ∷ takes)))
      (sym here)
      (subst (λ (l : List TaskParts). IsPermutation (task ∷ (taken_by from takes ++ collect (suc from) k takes)) (task ∷ (taken_by from takes ++ l))) (sym past)
      (IsPermutation-refl (task ∷ (taken_by from takes ++ collect (suc from) k takes))))
  | inr apart ↦
      let mine = taken_by from takes in
      let rest = collect (suc from) k takes in
      let more = collect (suc from) k ((who, task) ∷ takes) in
      let elsewhere = taken-elsewhere from who task takes (λ same. apart (sym same)) in
      subst (λ (l : List TaskParts). IsPermutation (task ∷ (mine ++ rest)) (l ++ more)) (sym elsewhere)
      (IsPermutation-trans (task ∷ (mine ++ rest)) (mine ++ task ∷ rest) (mine ++ more)
      (IsPermutation-sym (mine ++ task ∷ rest) (task ∷ (mine ++ rest)) (IsPermutation-middle mine task rest))
      (IsPermutation-append_right mine (task ∷ rest) more
      (collect-more (suc from) k who task takes (omega (arith, least, apart)) (omega (arith, most)))))
]

-- ---- all tasks

-- where nobody else took any, what they took is all
collect-all : (k : ℕ) (takes : Takes) → ((who : ℕ) → k ≤ who → taken_by who takes ≡ []) → IsPermutation (tasks_of takes) (collect 0 k takes)
collect-all k [] none = subst (IsPermutation []) (sym (empty 0 k)) (IsPermutation-refl [])
  where
    empty : (from n : ℕ) → collect from n [] ≡ []
    empty from zero = refl
    empty from (suc n) = empty (suc from) n
collect-all k ((who, task) ∷ takes) none =
    IsPermutation-trans (task ∷ tasks_of takes) (task ∷ collect 0 k takes) (collect 0 k ((who, task) ∷ takes))
    (IsPermutation-cons task (tasks_of takes) (collect 0 k takes) (collect-all k takes rest)) (collect-more 0 k who task takes (omega arith) (omega (arith, within)))
  where
    within : who < k
    within = elim (cases_lt who k) [
      | inl less ↦ less
      | inr most ↦ (let some = sym (taken-here who task takes) ∙ none who most in cc)
    ]

    rest : (other : ℕ) → k ≤ other → taken_by other takes ≡ []
    rest other most = sym (taken-elsewhere other who task takes (λ same. omega (arith, same, within, most))) ∙ none other most

-- the passes took what was stolen by them
stolen-all : (takes : Takes) (pass : ℕ) (stolen : List (List TaskParts)) → AreTaken takes pass stolen →
    all_of stolen ≡ collect (suc pass) (length stolen) takes
stolen-all takes pass [] are = refl
stolen-all takes pass (tasks ∷ stolen) are =
    ap (λ (l : List TaskParts). l ++ all_of stolen) are.0
    ∙ ap (λ (l : List TaskParts). taken_by (suc pass) takes ++ l) (stolen-all takes (suc pass) stolen are.1)

pub accounts-add_up : AccountsAddUp
accounts-add_up pushed popped stolen left account =
    let takes = account.takes in
    let all = collect-all (suc (length stolen)) takes (λ who most. account.no_other who (omega (arith, most))) in
    let theirs = stolen-all takes 0 stolen account.passes in
    subst (λ (l : List TaskParts). IsPermutation l ((popped ++ left) ++ all_of stolen)) (sym account.pushed_all)
    (subst (λ (l : List TaskParts). IsPermutation (tasks_of takes) (l ++ all_of stolen)) (sym account.owner)
    (subst (λ (l : List TaskParts). IsPermutation (tasks_of takes) (taken_by 0 takes ++ l)) (sym theirs) all))
