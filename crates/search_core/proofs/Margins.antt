-- Margins that may be missing, in their order.
use Rattle.std.proofs.Common.{◌≡◌, ◌⊎◌, ◌∙◌, ℤ, inl, inr, true, Option, Some, None, refl, sym, subst, ap, arith}
use Rattle.std.specs.Prelude.{int_lt, ◌≤ℤ◌}
use Rattle.std.proofs.lemmas.Bool.{cases_Bool, cond-true, cond-false}
use Rattle.std.proofs.lemmas.Int.{ints}
use Rattle.number_laws.specs.Missing.{IsAtMost, greater}
use Rattle.number_laws.proofs.MissingLaws.{IsAtMost-trans, IsGreaterOf-greater}

-- what is at most the best stays so
pub better-both : (a b : Option ℤ) (m : ℤ) → IsAtMost a b → IsAtMost (greater a (Some m)) (greater b (Some m))
better-both a b m le = let new = IsGreaterOf-greater b (Some m) in elim ((IsGreaterOf-greater a (Some m)).either) [
  | inl same ↦ subst (λ (x : Option ℤ). IsAtMost x (greater b (Some m))) (sym same) (IsAtMost-trans a b (greater b (Some m)) le new.first)
  | inr same ↦ subst (λ (x : Option ℤ). IsAtMost x (greater b (Some m))) (sym same) new.second
]

better-less : (y x m : ℤ) → y ≤ℤ x → int_lt x m ≡ true → greater (Some y) (Some m) ≡ Some m
better-less y x m le less = ap Some (cond-true (int_lt y m) m y (grind (arith, ints)))

-- an offer leaves the best as it is, or is the best, and then the greatest of its worker too
pub offer-either : (best own : Option ℤ) (m : ℤ) → IsAtMost own best → (greater best (Some m) ≡ best) ⊎ (greater own (Some m) ≡ greater best (Some m))
offer-either None None m le = inr refl
offer-either None (Some y) m le = absurd le
offer-either (Some x) None m le = elim (cases_Bool (int_lt x m)) [
  | inl less ↦ inr (sym (ap Some (cond-true (int_lt x m) m x less)))
  | inr more ↦ inl (ap Some (cond-false (int_lt x m) m x more))
]
offer-either (Some x) (Some y) m le = elim (cases_Bool (int_lt x m)) [
  | inl less ↦ inr (better-less y x m le less ∙ sym (ap Some (cond-true (int_lt x m) m x less)))
  | inr more ↦ inl (ap Some (cond-false (int_lt x m) m x more))
]
