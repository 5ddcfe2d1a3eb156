-- Lists of ids, and lists of which no two are equal.
use Rattle.std.proofs.Common.{◌≡◌, ℕ, inl, inr, Bool, true, false, List, [], ◌∷◌, ◌++◌, refl, sym, ◌∙◌}
use Rattle.std.specs.Prelude.{◌⊎◌, ◌||◌}
use Rattle.std.specs.List.{AllByRecursion, IsDistinct, list_any}
use Rattle.std.proofs.Math.Dec.{eqb}
use Rattle.std.proofs.lemmas.Bool.{eqb-true, eq-eqb, or_cases, false_from_ne_true}
use Rattle.std.proofs.lemmas.List.Folds.{list_any-append}

-- the list has the id
abbrev pub HasId : List ℕ → ℕ → Type 0
HasId ids id = list_any (eqb id) ids ≡ true

either_true : (a b : Bool) → (a ≡ true) ⊎ (b ≡ true) → (a || b) ≡ true
either_true true b is = refl
either_true false true is = refl
either_true false false (inl is) = is
either_true false false (inr is) = is

pub HasId-first : (ids : List ℕ) (id other : ℕ) → id ≡ other → HasId (other ∷ ids) id
HasId-first ids id other same = either_true (eqb id other) _ (inl (eq-eqb id other same))

pub HasId-later : (ids : List ℕ) (id other : ℕ) → HasId ids id → HasId (other ∷ ids) id
HasId-later ids id other there = either_true (eqb id other) _ (inr there)

pub HasId-cases : (ids : List ℕ) (id other : ℕ) → HasId (other ∷ ids) id → (id ≡ other) ⊎ HasId ids id
HasId-cases ids id other there =
    elim (or_cases (eqb id other) _ there) [ inl same ↦ inl (eqb-true id other same) | inr later ↦ inr later ]

pub HasId-append : (first second : List ℕ) (id : ℕ) → HasId first id ⊎ HasId second id → HasId (first ++ second) id
HasId-append first second id there = list_any-append (eqb id) first second ∙ either_true _ _ there

pub HasId-parts : (first second : List ℕ) (id : ℕ) → HasId (first ++ second) id → HasId first id ⊎ HasId second id
HasId-parts first second id there = or_cases _ _ (sym (list_any-append (eqb id) first second) ∙ there)

-- an id that the list has not is another than each of it
others : (ids : List ℕ) (id : ℕ) → (HasId ids id → ⊥) → AllByRecursion (λ other. eqb id other ≡ false) ids
others [] id none = tt
others (other ∷ ids) id none = (
  false_from_ne_true (eqb id other) (λ same. none (HasId-first ids id other (eqb-true id other same))),
  others ids id (λ there. none (HasId-later ids id other there)),
)

-- no two ids of the list are equal
abbrev pub AreDistinct : List ℕ → Type 0
AreDistinct ids = IsDistinct eqb ids

pub AreDistinct-one : (id : ℕ) → AreDistinct (id ∷ [])
unfolding IsDistinct
AreDistinct-one id = (tt, tt)

pub AreDistinct-more : (ids : List ℕ) (id : ℕ) → (HasId ids id → ⊥) → AreDistinct ids → AreDistinct (id ∷ ids)
unfolding IsDistinct
AreDistinct-more ids id none distinct = (others ids id none, distinct)

distinct_first : (ids : List ℕ) (id : ℕ) → AreDistinct (id ∷ ids) → AllByRecursion (λ other. eqb id other ≡ false) ids × AreDistinct ids
unfolding IsDistinct
distinct_first ids id distinct = distinct

missing : (ids : List ℕ) (id : ℕ) → AllByRecursion (λ other. eqb id other ≡ false) ids → HasId ids id → ⊥
missing [] id none there = cc
missing (other ∷ ids) id none there =
    elim (HasId-cases ids id other there) [
      | inl same ↦ let no = none.0 in let yes = eq-eqb id other same in cc
      | inr later ↦ missing ids id none.1 later
    ]

pub AreDistinct-append : (first second : List ℕ) → AreDistinct first → AreDistinct second → ((id : ℕ) → HasId first id → HasId second id → ⊥)
    → AreDistinct (first ++ second)
AreDistinct-append [] second one two apart = two
AreDistinct-append (id ∷ first) second one two apart =
    let parts = distinct_first first id one in
    AreDistinct-more (first ++ second) id alone
    (AreDistinct-append first second parts.1 two (λ other there also. apart other (HasId-later first other id there) also))
  where
    alone : HasId (first ++ second) id → ⊥
    alone there =
        elim (HasId-parts first second id there) [
          | inl early ↦ missing first id (distinct_first first id one).0 early
          | inr late ↦ apart id (HasId-first first id id refl) late
        ]
