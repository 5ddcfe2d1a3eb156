-- How often something stands in a list, by its places.
use Rattle.std.proofs.Common.{◌≡◌, ℕ, zero, suc, ◌+◌, ◌<◌, ◌≤◌, Some, List, [], ◌∷◌, length, refl, sym, ap, subst, ⊎_elim, inl, inr, arith}
use Rattle.std.specs.List.{AllByRecursion}
use Rattle.std.specs.Prelude.{slice_get, Contains}
use Rattle.std.proofs.lemmas.Bool.{cases_lt}
use mathlib.Core.Logic.{dite}
use native.Mathlib.Decide.{ℕ_discrete}
use Rattle.number_counts.specs.Counts.{one, times, HasEachBelow}
use Rattle.number_counts.proofs.CountLaws.{one-same, one-other}
use Rattle.number_counts.proofs.Members.{among-none, among-first, among-rest, among-which}

-- what holds at each place holds of all
pub all-by-places : {X : Type 0} (P : X → Type 0) (xs : List X) → ((k : ℕ) (x : X) → slice_get xs k ≡ Some x → P x) → AllByRecursion P xs
all-by-places P [] each = tt
all-by-places P (x ∷ xs) each = (each 0 x refl, all-by-places P xs (λ k y there. each (suc k) y there))

pub one-yes : (x y : ℕ) → 1 ≤ one x y → x ≡ y
one-yes x y some = dite (ℕ_discrete x y) (λ e. e) (λ ne. let none = one-other x y ne in absurd (omega arith))

-- ---- members and places

pub place-of : {X : Type 0} (xs : List X) (x : X) → Contains xs x → (k : ℕ) × (slice_get xs k ≡ Some x)
place-of [] x there = absurd (among-none x there)
place-of (y ∷ ys) x there = ⊎_elim
    (λ (is : x ≡ y). (0, ap Some (sym is)))
    (λ rest. let found = place-of ys x rest in (suc found.0, found.1))
    (among-which y ys x there)

pub member-at : {X : Type 0} (xs : List X) (k : ℕ) (x : X) → slice_get xs k ≡ Some x → Contains xs x
member-at [] k x is = absurd (cc)
member-at (y ∷ ys) zero x is =
    let same : y ≡ x = cc in subst (λ (z : _). Contains (y ∷ ys) z) same (among-first y ys)
member-at (y ∷ ys) (suc k) x is = among-rest y ys x (member-at ys k x is)

-- ---- what counts

-- the sum of what each item counts
abbrev pub counted : {X : Type 0} → (X → ℕ) → List X → ℕ
counted f [] = 0
counted f (y ∷ ys) = f y + counted f ys

module _ {X : Type 0} (f : X → ℕ) where
  pub counts-at : (xs : List X) (k : ℕ) (x : X) → slice_get xs k ≡ Some x → f x ≤ counted f xs
  counts-at [] k x is = absurd (cc)
  counts-at (y ∷ ys) zero x is = let same : f y ≡ f x = ap f (let e : y ≡ x = cc in e) in omega arith
  counts-at (y ∷ ys) (suc k) x is = let rest = counts-at ys k x is in omega arith

  pub at-counts : (xs : List X) → 1 ≤ counted f xs → (k : ℕ) × (x : X) × (slice_get xs k ≡ Some x) × (1 ≤ f x)
  at-counts [] some = absurd (omega arith)
  at-counts (y ∷ ys) some =
      elim (cases_lt 0 (f y)) [
        | inl here ↦ (0, y, refl, omega arith)
        | inr none ↦ let found = at-counts ys (omega arith) in (suc found.0, found.1, found.2, found.3)
      ]

  pub once-counts : (xs : List X) (j k : ℕ) (x y : X) → counted f xs ≤ 1 → slice_get xs j ≡ Some x → slice_get xs k ≡ Some y → 1 ≤ f x → 1 ≤ f y → j ≡ k
  once-counts [] j k x y few one two fx fy = absurd (cc)
  once-counts (z ∷ zs) zero zero x y few one two fx fy = refl
  once-counts (z ∷ zs) zero (suc k) x y few one two fx fy =
      let same : f z ≡ f x = ap f (let e : z ≡ x = cc in e) in let other = counts-at zs k y two in absurd (omega arith)
  once-counts (z ∷ zs) (suc j) zero x y few one two fx fy =
      let same : f z ≡ f y = ap f (let e : z ≡ y = cc in e) in let other = counts-at zs j x one in absurd (omega arith)
  once-counts (z ∷ zs) (suc j) (suc k) x y few one two fx fy = ap suc (once-counts zs j k x y (omega arith) one two fx fy)

pub times-counted : (x : ℕ) (xs : List ℕ) → times x xs ≡ counted (one x) xs
times-counted x [] = refl
times-counted x (y ∷ ys) = let rest = times-counted x ys in omega arith

-- ---- how long a list of numbers is

-- how often one number, or those of a list, are below n
abbrev ones : ℕ → ℕ → ℕ
ones zero y = 0
ones (suc n) y = one n y + ones n y

abbrev total : ℕ → List ℕ → ℕ
total zero xs = 0
total (suc n) xs = times n xs + total n xs

ones-past : (n y : ℕ) → n ≤ y → ones n y ≡ 0
ones-past zero y le = refl
ones-past (suc n) y le = let here = one-other n y (λ e. omega arith) in let rest = ones-past n y (omega arith) in omega arith

ones-below : (n y : ℕ) → y < n → ones n y ≡ 1
ones-below zero y lt = absurd (omega arith)
ones-below (suc n) y lt = dite (ℕ_discrete n y)
    (λ e. let here = one-same n y e in let rest = ones-past n y (omega arith) in omega arith)
    (λ ne. let here = one-other n y ne in let rest = ones-below n y (omega arith) in omega arith)

total-none : (n : ℕ) → total n [] ≡ 0
total-none zero = refl
total-none (suc n) = let rest = total-none n in omega arith

total-more : (n y : ℕ) (ys : List ℕ) → total n (y ∷ ys) ≡ ones n y + total n ys
total-more zero y ys = refl
total-more (suc n) y ys = let rest = total-more n y ys in omega arith

total-length : (n : ℕ) (xs : List ℕ) → ((x : ℕ) → 1 ≤ times x xs → x < n) → total n xs ≡ length xs
total-length n [] below = total-none n
total-length n (y ∷ ys) below =
    let here = one-same y y refl in
    let first = ones-below n y (below y (omega arith)) in
    let rest = total-length n ys (λ x some. below x (omega arith)) in
    let more = total-more n y ys in
    omega arith

total-most : (n : ℕ) (xs : List ℕ) → ((x : ℕ) → times x xs ≤ 1) → total n xs ≤ n
total-most zero xs once = omega arith
total-most (suc n) xs once = let rest = total-most n xs once in let here = once n in omega arith

total-each : (n m : ℕ) (xs : List ℕ) → ((x : ℕ) → x < m → times x xs ≡ 1) → n ≤ m → total n xs ≡ n
total-each zero m xs each le = refl
total-each (suc n) m xs each le = let rest = total-each n m xs each (omega arith) in let here = each n (omega arith) in omega arith

-- a list of numbers below n, each at most once, has at most n
pub length-once : (n : ℕ) (xs : List ℕ) → ((x : ℕ) → 1 ≤ times x xs → x < n) → ((x : ℕ) → times x xs ≤ 1) → length xs ≤ n
length-once n xs below once = let all = total-length n xs below in let most = total-most n xs once in omega arith

-- and of each once, n
pub length-each : (n : ℕ) (xs : List ℕ) → HasEachBelow n xs → length xs ≡ n
length-each n xs each =
    let all = total-length n xs (λ x some. ⊎_elim (λ (lt : x < n). lt) (λ (ge : n ≤ x). let none = each.no_other x ge in absurd (omega arith)) (cases_lt x n)) in
    let sum = total-each n n xs each.once (omega arith) in omega arith
