-- Members of a list, by its first item.
use Rattle.std.proofs.Common.{◌≡◌, ◌⊎◌, zero, suc, List, [], ◌∷◌, ◌++◌, refl, sym, inl, inr, ⊎_elim, arith}
use Rattle.std.specs.Prelude.{Contains}

pub among-none : {X : Type 0} (x : X) → Contains [] x → ⊥
among-none x there = absurd (let lt = there.1 in omega arith)

pub among-first : {X : Type 0} (x : X) (xs : List X) → Contains (x ∷ xs) x
among-first x xs = (0, omega arith, refl)

pub among-rest : {X : Type 0} (y : X) (xs : List X) (x : X) → Contains xs x → Contains (y ∷ xs) x
among-rest y xs x there = let lt = there.1 in (suc there.0, omega arith, there.2)

pub among-which : {X : Type 0} (y : X) (xs : List X) (x : X) → Contains (y ∷ xs) x → (x ≡ y) ⊎ Contains xs x
among-which y xs x (zero, lt, is) = inl (sym is)
among-which y xs x (suc k, lt, is) = inr (k, omega arith, is)

pub among-last : {X : Type 0} (xs : List X) (y : X) (x : X) → Contains (xs ++ y ∷ []) x → Contains xs x ⊎ (x ≡ y)
among-last [] y x there = ⊎_elim (λ is. inr is) (λ none. absurd (among-none x none)) (among-which y [] x there)
among-last (z ∷ zs) y x there = ⊎_elim
    (λ (is : x ≡ z). inl (0, omega arith, sym is))
    (λ rest. ⊎_elim (λ was. inl (among-rest z zs x was)) (λ is. inr is) (among-last zs y x rest))
    (among-which z (zs ++ y ∷ []) x there)

pub among-longer : {X : Type 0} (xs : List X) (y : X) (x : X) → Contains xs x → Contains (xs ++ y ∷ []) x
among-longer [] y x there = absurd (among-none x there)
among-longer (z ∷ zs) y x there = ⊎_elim
    (λ (is : x ≡ z). (0, omega arith, sym is))
    (λ rest. among-rest z (zs ++ y ∷ []) x (among-longer zs y x rest))
    (among-which z zs x there)
