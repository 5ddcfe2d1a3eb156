-- The numbers of the nodes of a tree, which follow from the tickets: 0, and 2T + 1 and 2T + 2 for each ticket T.
use Rattle.std.proofs.Common.{◌≡◌, ◌≢◌, ◌⊎◌, ℕ, zero, suc, ◌+◌, ◌*◌, List, [], ◌∷◌, refl, sym, ap, ◌∙◌, ⊎_elim, inl, inr, arith}
use mathlib.Core.Logic.{dite}
use native.Mathlib.Decide.{ℕ_discrete}
use Rattle.number_counts.specs.Counts.{one, times, HasEachBelow}
use Rattle.number_counts.proofs.CountLaws.{one-same, one-other}

-- how often x is the number of a left part
abbrev pub lefts : ℕ → List ℕ → ℕ
lefts x [] = 0
lefts x (ticket ∷ tickets) = one x (2 * ticket + 1) + lefts x tickets

-- of a right part
abbrev pub rights : ℕ → List ℕ → ℕ
rights x [] = 0
rights x (ticket ∷ tickets) = one x (2 * ticket + 2) + rights x tickets

one-left : (y t : ℕ) → one (2 * y + 1) (2 * t + 1) ≡ one y t
one-left y t = dite (ℕ_discrete y t) (λ e. one-same (2 * y + 1) (2 * t + 1) (omega arith) ∙ sym (one-same y t e))
    (λ ne. one-other (2 * y + 1) (2 * t + 1) (λ e. ne (omega arith)) ∙ sym (one-other y t ne))

one-right : (y t : ℕ) → one (2 * y + 2) (2 * t + 2) ≡ one y t
one-right y t = dite (ℕ_discrete y t) (λ e. one-same (2 * y + 2) (2 * t + 2) (omega arith) ∙ sym (one-same y t e))
    (λ ne. one-other (2 * y + 2) (2 * t + 2) (λ e. ne (omega arith)) ∙ sym (one-other y t ne))

lefts-odd : (y : ℕ) (tickets : List ℕ) → lefts (2 * y + 1) tickets ≡ times y tickets
lefts-odd y [] = refl
lefts-odd y (t ∷ ts) = let rest = lefts-odd y ts in let first = one-left y t in omega arith

rights-even : (y : ℕ) (tickets : List ℕ) → rights (2 * y + 2) tickets ≡ times y tickets
rights-even y [] = refl
rights-even y (t ∷ ts) = let rest = rights-even y ts in let first = one-right y t in omega arith

lefts-none : (x : ℕ) (tickets : List ℕ) → ((t : ℕ) → x ≢ 2 * t + 1) → lefts x tickets ≡ 0
lefts-none x [] not = refl
lefts-none x (t ∷ ts) not = let rest = lefts-none x ts not in let first = one-other x (2 * t + 1) (not t) in omega arith

rights-none : (x : ℕ) (tickets : List ℕ) → ((t : ℕ) → x ≢ 2 * t + 2) → rights x tickets ≡ 0
rights-none x [] not = refl
rights-none x (t ∷ ts) not = let rest = rights-none x ts not in let first = one-other x (2 * t + 2) (not t) in omega arith

-- a number is 0, that of a left part, or that of a right part
kind-of : (x : ℕ) → (x ≡ 0) ⊎ (((y : ℕ) × (x ≡ 2 * y + 1)) ⊎ ((y : ℕ) × (x ≡ 2 * y + 2)))
kind-of zero = inl refl
kind-of (suc x) = inr (⊎_elim
    (λ (e : x ≡ 0). inl (0, omega arith))
    (λ k. ⊎_elim
    (λ (l : (y : ℕ) × (x ≡ 2 * y + 1)). let e = l.1 in inr (l.0, omega arith))
    (λ (r : (y : ℕ) × (x ≡ 2 * y + 2)). let e = r.1 in inl (suc r.0, omega arith))
    k)
    (kind-of x))

module _ (x : ℕ) (tickets : List ℕ) where
  nodes-root : x ≡ 0 → one x 0 + rights x tickets + lefts x tickets ≡ 1
  nodes-root e = let a = one-same x 0 e in let l = lefts-none x tickets (λ t p. omega arith) in
      let r = rights-none x tickets (λ t p. omega arith) in omega arith

  nodes-left : (y : ℕ) → x ≡ 2 * y + 1 → one x 0 + rights x tickets + lefts x tickets ≡ times y tickets
  nodes-left y e = let a = one-other x 0 (λ z. omega arith) in
      let l : lefts x tickets ≡ times y tickets = ap (λ (z : ℕ). lefts z tickets) e ∙ lefts-odd y tickets in
      let r = rights-none x tickets (λ t q. omega arith) in omega arith

  nodes-right : (y : ℕ) → x ≡ 2 * y + 2 → one x 0 + rights x tickets + lefts x tickets ≡ times y tickets
  nodes-right y e = let a = one-other x 0 (λ z. omega arith) in
      let r : rights x tickets ≡ times y tickets = ap (λ (z : ℕ). rights z tickets) e ∙ rights-even y tickets in
      let l = lefts-none x tickets (λ t q. omega arith) in omega arith

-- so the nodes are those from 0 to 2t, each once, where the tickets are those below t
pub nodes-below : (t : ℕ) (tickets : List ℕ) → HasEachBelow t tickets → (ids : List ℕ)
    → ((x : ℕ) → times x ids ≡ one x 0 + rights x tickets + lefts x tickets) → HasEachBelow (2 * t + 1) ids
nodes-below t tickets all ids counts = record {
  once = λ x lt. let is = counts x in ⊎_elim
      (λ (e : x ≡ 0). is ∙ nodes-root x tickets e)
      (λ k. ⊎_elim
      (λ (p : (y : ℕ) × (x ≡ 2 * y + 1)). let e = p.1 in is ∙ nodes-left x tickets p.0 e ∙ all.once p.0 (omega arith))
      (λ (p : (y : ℕ) × (x ≡ 2 * y + 2)). let e = p.1 in is ∙ nodes-right x tickets p.0 e ∙ all.once p.0 (omega arith))
      k)
      (kind-of x);
  no_other = λ x le. let is = counts x in ⊎_elim
      (λ (e : x ≡ 0). absurd (omega arith))
      (λ k. ⊎_elim
      (λ (p : (y : ℕ) × (x ≡ 2 * y + 1)). let e = p.1 in is ∙ nodes-left x tickets p.0 e ∙ all.no_other p.0 (omega arith))
      (λ (p : (y : ℕ) × (x ≡ 2 * y + 2)). let e = p.1 in is ∙ nodes-right x tickets p.0 e ∙ all.no_other p.0 (omega arith))
      k)
      (kind-of x);
}
