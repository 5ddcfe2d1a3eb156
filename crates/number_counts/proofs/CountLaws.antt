-- How often numbers stand in lists.
use Rattle.std.proofs.Common.{◌≡◌, ◌≢◌, ℕ, suc, ◌+◌, cond, Bool, List, [], ◌∷◌, ◌++◌, refl, ap, eq-eqb, ne_eqb, arith}
use mathlib.Core.Logic.{dite}
use native.Mathlib.Decide.{ℕ_discrete}
use Rattle.number_counts.specs.Counts.{one, times, HasEachBelow}

pub one-same : (x n : ℕ) → x ≡ n → one x n ≡ 1
one-same x n e = ap (λ (b : Bool). cond b 1 0) (eq-eqb x n e)

pub one-other : (x n : ℕ) → x ≢ n → one x n ≡ 0
one-other x n ne = ap (λ (b : Bool). cond b 1 0) (ne_eqb x n ne)

pub times-append : (x : ℕ) (xs ys : List ℕ) → times x (xs ++ ys) ≡ times x xs + times x ys
times-append x [] ys = omega arith
times-append x (z ∷ zs) ys = let rest = times-append x zs ys in omega arith

pub each_below-none : HasEachBelow 0 []
each_below-none = record { once = λ x lt. absurd (omega arith); no_other = λ x le. refl }

pub each_below-next : (n : ℕ) (xs : List ℕ) → HasEachBelow n xs → HasEachBelow (suc n) (xs ++ n ∷ [])
each_below-next n xs all = record {
  once = λ x lt. let sum = times-append x xs (n ∷ []) in dite (ℕ_discrete x n)
      (λ e. let here = one-same x n e in let before = all.no_other x (omega arith) in omega arith)
      (λ ne. let here = one-other x n ne in let before = all.once x (omega arith) in omega arith);
  no_other = λ x le. let sum = times-append x xs (n ∷ []) in let here = one-other x n (λ e. omega arith) in
      let before = all.no_other x (omega arith) in omega arith;
}
