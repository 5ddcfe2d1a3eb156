-- What a table holds once each of some places is written.
use Rattle.std.proofs.Common.{◌≡◌, ◌≢◌, ℕ, zero, suc, ◌+◌, ◌-◌, ◌<◌, ◌≤◌, Some, List, [], ◌∷◌, ◌++◌, length, set, refl, sym, ap, ◌∙◌, subst, arith}
use Rattle.std.specs.Prelude.{slice_get}
use Rattle.std.proofs.Math.ListN.{length-set}
use Rattle.search_gather.specs.inside.Placing.{written, turns_from}

-- the place that is written
pub get-set_same : {X : Type 0} (xs : List X) (i : ℕ) (y : X) → i < length xs → slice_get (set xs i y) i ≡ Some y
get-set_same [] i y inside = absurd (omega arith)
get-set_same (x ∷ xs) zero y inside = refl
get-set_same (x ∷ xs) (suc i) y inside = get-set_same xs i y (omega arith)

-- another place
pub get-set_other : {X : Type 0} (xs : List X) (i j : ℕ) (y : X) → j ≢ i → slice_get (set xs i y) j ≡ slice_get xs j
get-set_other [] i j y other = refl
get-set_other (x ∷ xs) zero zero y other = absurd (other refl)
get-set_other (x ∷ xs) zero (suc j) y other = refl
get-set_other (x ∷ xs) (suc i) zero y other = refl
get-set_other (x ∷ xs) (suc i) (suc j) y other = get-set_other xs i j y (λ same. other (ap suc same))

-- a place of the first list
pub get-append_left : {X : Type 0} (xs ys : List X) (i : ℕ) → i < length xs → slice_get (xs ++ ys) i ≡ slice_get xs i
get-append_left [] ys i inside = absurd (omega arith)
get-append_left (x ∷ xs) ys zero inside = refl
get-append_left (x ∷ xs) ys (suc i) inside = get-append_left xs ys i (omega arith)

-- a place of the second
pub get-append_right : {X : Type 0} (xs ys : List X) (i : ℕ) → length xs ≤ i → slice_get (xs ++ ys) i ≡ slice_get ys (i - length xs)
get-append_right {X} [] ys i past = let same : i ≡ i - length {A = X} [] = omega arith in ap (slice_get ys) same
get-append_right (x ∷ xs) ys zero past = absurd (omega arith)
get-append_right (x ∷ xs) ys (suc i) past =
    let same : i - length xs ≡ suc i - length (x ∷ xs) = omega arith in
    get-append_right xs ys i (omega arith) ∙ ap (slice_get ys) same

module _ {X : Type 0} where
  pub written-length : (ws : List (ℕ × X)) (table : List X) → length (written ws table) ≡ length table
  written-length [] table = refl
  written-length (w ∷ ws) table = written-length ws (set table w.0 w.1) ∙ length-set table w.0 w.1

  -- a place that is not written
  pub written-other : (ws : List (ℕ × X)) (table : List X) (p : ℕ) → ((k : ℕ) (w : ℕ × X) → slice_get ws k ≡ Some w → w.0 ≢ p)
      → slice_get (written ws table) p ≡ slice_get table p
  written-other [] table p other = refl
  written-other (w ∷ ws) table p other =
      written-other ws (set table w.0 w.1) p (λ k v there. other (suc k) v there)
      ∙ get-set_other table w.0 p w.1 (λ e. other 0 w refl (sym e))

  -- no place is written twice
  abbrev pub AreApart : List (ℕ × X) → Type 0
  AreApart ws = (j k : ℕ) (v w : ℕ × X) → slice_get ws j ≡ Some v → slice_get ws k ≡ Some w → v.0 ≡ w.0 → j ≡ k

  -- then what is written there stands
  pub written-at : (ws : List (ℕ × X)) (table : List X) (k : ℕ) (w : ℕ × X) → AreApart ws → slice_get ws k ≡ Some w → w.0 < length table
      → slice_get (written ws table) w.0 ≡ Some w.1
  written-at [] table k w apart is inside = absurd (cc)
  written-at (v ∷ ws) table zero w apart is inside =
      let same : v ≡ w = cc in
      let low : v.0 < length table = subst (λ (u : ℕ × X). u.0 < length table) (sym same) inside in
      subst (λ (u : ℕ × X). slice_get (written (v ∷ ws) table) u.0 ≡ Some u.1) same
      (written-other ws (set table v.0 v.1) v.0 (λ k u there e. let no : suc k ≡ 0 = apart (suc k) 0 u v there refl e in absurd (omega arith))
      ∙ get-set_same table v.0 v.1 low)
  written-at (v ∷ ws) table (suc k) w apart is inside =
      let size = length-set table v.0 v.1 in
      written-at ws (set table v.0 v.1) k w
      (λ i j u x one two e. let same : suc i ≡ suc j = apart (suc i) (suc j) u x one two e in omega arith)
      is (omega arith)

-- ---- turns

pub turns-at : (j : ℕ) (order : List ℕ) (k ticket : ℕ) → slice_get order k ≡ Some ticket → slice_get (turns_from j order) k ≡ Some (ticket, j + k)
turns-at j [] k ticket is = absurd (cc)
turns-at j (t ∷ order) zero ticket is =
    let same : t ≡ ticket = cc in let e : j ≡ j + 0 = omega arith in ap Some (λ i. (same i, e i))
turns-at j (t ∷ order) (suc k) ticket is =
    let e : j + 1 + k ≡ j + suc k = omega arith in turns-at (j + 1) order k ticket is ∙ ap (λ (n : ℕ). Some (ticket, n)) e

pub at-turns : (j : ℕ) (order : List ℕ) (k : ℕ) (w : ℕ × ℕ) → slice_get (turns_from j order) k ≡ Some w → slice_get order k ≡ Some w.0
at-turns j [] k w is = absurd (cc)
at-turns j (t ∷ order) zero w is = let same : (t, j) ≡ w = cc in ap (λ (u : ℕ × ℕ). Some u.0) same
at-turns j (t ∷ order) (suc k) w is = at-turns (j + 1) order k w is
