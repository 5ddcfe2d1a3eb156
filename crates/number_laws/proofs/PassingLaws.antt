-- The greatest and the least that pass, by what is so of them.
use Rattle.std.proofs.Common.{◌≡◌, ℕ, zero, suc, ◌≤◌, Bool, true, false, Option, Some, None, inl, inr, arith}
use Rattle.std.specs.Option.{option_or}
use Rattle.std.proofs.lemmas.Bool.{cases_Bool, cases_lt, false_from_ne_true}
use Rattle.std.proofs.lemmas.Option.{cond_some}
use Rattle.number_laws.specs.Passing.{where_passing, greatest_up_to, least_up_to}

pub greatest_is_none : (n : ℕ) (passes : ℕ → Bool) → ((k : ℕ) → k ≤ n → passes k ≡ true → ⊥) → greatest_up_to n passes ≡ None
greatest_is_none zero passes none =
    elim (cases_Bool (passes zero)) [
      | inl passed ↦ absurd (none zero (omega arith) passed)
      | inr failed ↦ rw failed
    ]
greatest_is_none (suc n) passes none =
    elim (cases_Bool (passes (suc n))) [
      | inl passed ↦ absurd (none (suc n) (omega arith) passed)
      | inr failed ↦ rw failed (greatest_is_none n passes (λ k h. none k (omega arith)))
    ]

pub greatest_is : (n m : ℕ) (passes : ℕ → Bool) → m ≤ n → passes m ≡ true
    → ((k : ℕ) → k ≤ n → passes k ≡ true → k ≤ m) → greatest_up_to n passes ≡ Some m
greatest_is zero zero passes in_reach passed most = rw passed
greatest_is zero (suc m) passes in_reach passed most = absurd (omega (arith, in_reach))
greatest_is (suc n) m passes in_reach passed most =
    elim (cases_lt n m) [
      | inl last ↦ (let e : m ≡ suc n = omega arith in
          let at : passes (suc n) ≡ true = rw e at passed in
          rw (e, at))
      | inr within ↦ (let failed : passes (suc n) ≡ false = false_from_ne_true (passes (suc n))
          (λ h. (let over = most (suc n) (omega arith) h in omega (arith, over, within))) in
          rw failed (greatest_is n m passes within passed (λ k h. most k (omega arith))))
    ]

pub least_is_none : (n : ℕ) (passes : ℕ → Bool) → ((k : ℕ) → k ≤ n → passes k ≡ true → ⊥) → least_up_to n passes ≡ None
least_is_none zero passes none =
    elim (cases_Bool (passes zero)) [
      | inl passed ↦ absurd (none zero (omega arith) passed)
      | inr failed ↦ rw failed
    ]
least_is_none (suc n) passes none =
    elim (cases_Bool (passes (suc n))) [
      | inl passed ↦ absurd (none (suc n) (omega arith) passed)
      | inr failed ↦ rw (least_is_none n passes (λ k h. none k (omega arith)), failed)
    ]

pub least_is : (n m : ℕ) (passes : ℕ → Bool) → m ≤ n → passes m ≡ true
    → ((k : ℕ) → passes k ≡ true → m ≤ k) → least_up_to n passes ≡ Some m
least_is zero zero passes in_reach passed least = rw passed
least_is zero (suc m) passes in_reach passed least = absurd (omega (arith, in_reach))
least_is (suc n) m passes in_reach passed least =
    elim (cases_lt n m) [
      | inl last ↦ (let e : m ≡ suc n = omega arith in
          let none : least_up_to n passes ≡ None = least_is_none n passes (λ k h is. (let over = least k is in omega (arith, over, h, last))) in
          let at : passes (suc n) ≡ true = rw e at passed in
          rw (e, none, at))
      | inr within ↦ rw (least_is n m passes within passed least)
    ]

where_passes : (m n : ℕ) (passes : ℕ → Bool) → where_passing passes n ≡ Some m → passes m ≡ true
where_passes m n passes is = (let h = cond_some (passes n) n m is in rw (← h.1) h.0)

either_passes : (n m : ℕ) (passes : ℕ → Bool) (first : Option ℕ) → (first ≡ Some m → passes m ≡ true)
    → option_or first (where_passing passes (suc n)) ≡ Some m → passes m ≡ true
either_passes n m passes None below is = where_passes m (suc n) passes is
either_passes n m passes (Some k) below is = below is

-- what is found passes
pub least_passes : (n m : ℕ) (passes : ℕ → Bool) → least_up_to n passes ≡ Some m → passes m ≡ true
least_passes zero m passes is = where_passes m zero passes is
least_passes (suc n) m passes is = either_passes n m passes (least_up_to n passes) (least_passes n m passes) is
