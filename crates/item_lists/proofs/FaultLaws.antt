-- Laws on the first fault of a list of faults that is joined from parts, and on a list that has none.
use Rattle.std.proofs.Common.{◌≡◌, ℕ, zero, suc, ◌+◌, ◌<◌, ◌≤◌, Bool, true, false, Some, None, List, [], ◌∷◌, ◌++◌, length, get_or, drop, refl, ap, sym, subst, ◌∙◌, arith}
use Rattle.std.proofs.lemmas.List.{drop_more, drop_all}
use Rattle.item_lists.specs.Faults.{first_of, unless, each_from}

-- a fault of the front is the first of all
pub first_of-front : {X : Type 0} (front back : List X) (fault : X) → first_of front ≡ Some fault → first_of (front ++ back) ≡ Some fault
first_of-front [] back fault found = cc
first_of-front (x ∷ front) back fault found = found

-- where the front has none, the first is that of the rest
pub first_of-back : {X : Type 0} (front back : List X) → first_of front ≡ None → first_of (front ++ back) ≡ first_of back
first_of-back [] back none = refl
first_of-back (x ∷ front) back none = cc

-- where there is no first fault there is none
pub nil_of_none : {X : Type 0} (faults : List X) → first_of faults ≡ None → faults ≡ []
nil_of_none [] none = refl
nil_of_none (x ∷ faults) none = cc

-- where there is none, neither part has one
pub nil_of_append : {X : Type 0} (front back : List X) → front ++ back ≡ [] → (front ≡ []) × (back ≡ [])
nil_of_append [] back none = (refl, none)
nil_of_append (x ∷ front) back none = cc

-- a test that leaves no fault holds
pub holds_of_nil : {X : Type 0} (test : Bool) (fault : X) → unless test fault ≡ [] → test ≡ true
holds_of_nil true fault none = refl
holds_of_nil false fault none = cc

-- the last two, for `grind`, which takes a fact at a term that shows its variables: the first part is always true
pub no_fault_in_joined : {X : Type 0} (front back : List X) → (front ++ back ≡ front ++ back) × (front ++ back ≡ [] → (front ≡ []) × (back ≡ []))
no_fault_in_joined front back = (refl, λ none. nil_of_append front back none)

pub no_fault_by_test : {X : Type 0} (test : Bool) (fault : X) → (unless test fault ≡ unless test fault) × (unless test fault ≡ [] → test ≡ true)
no_fault_by_test test fault = (refl, λ none. holds_of_nil test fault none)

pub ruleset no_faults = (no_fault_in_joined, no_fault_by_test)

-- where no item has a fault, the item at i has none
pub each_of_nil : {X Y : Type 0} (faults : ℕ → X → List Y) (index i : ℕ) (xs : List X) (d : X) → each_from faults index xs ≡ [] → i < length xs →
    faults (index + i) (get_or xs i d) ≡ []
each_of_nil faults index i [] d none within = absurd (omega arith)
each_of_nil {Y} faults index zero (x ∷ xs) d none within =
    let same : index + 0 ≡ index = omega arith in
    let P : ℕ → Type 0 = λ n. faults n x ≡ [] in
    subst P (sym same) (nil_of_append (faults index x) (each_from faults (index + 1) xs) none).0
each_of_nil {Y} faults index (suc i) (x ∷ xs) d none within =
    let same : index + 1 + i ≡ index + suc i = omega arith in
    let P : ℕ → Type 0 = λ n. faults n (get_or xs i d) ≡ [] in
    subst P same (each_of_nil faults (index + 1) i xs d (nil_of_append (faults index x) (each_from faults (index + 1) xs) none).1 (omega arith))

-- a loop over the items: the one at i, which is x, has no fault, or has one, or i is past the end
pub each_from-next : {X Y : Type 0} (faults : ℕ → X → List Y) (index i : ℕ) (xs : List X) (x : X) → i < length xs → x ≡ get_or xs i x →
    first_of (faults index x) ≡ None → first_of (each_from faults index (drop i xs)) ≡ first_of (each_from faults (index + 1) (drop (i + 1) xs))
each_from-next faults index i xs x within is none =
    ap (λ rest. first_of (each_from faults index rest)) (drop_more xs i x within)
    ∙ first_of-back (faults index (get_or xs i x)) (each_from faults (index + 1) (drop (i + 1) xs)) (ap (λ y. first_of (faults index y)) (sym is) ∙ none)

pub each_from-stop : {X Y : Type 0} (faults : ℕ → X → List Y) (index i : ℕ) (xs : List X) (x : X) (fault : Y) → i < length xs → x ≡ get_or xs i x →
    first_of (faults index x) ≡ Some fault → first_of (each_from faults index (drop i xs)) ≡ Some fault
each_from-stop faults index i xs x fault within is found =
    ap (λ rest. first_of (each_from faults index rest)) (drop_more xs i x within)
    ∙ first_of-front (faults index (get_or xs i x)) (each_from faults (index + 1) (drop (i + 1) xs)) fault (ap (λ y. first_of (faults index y)) (sym is)
    ∙ found)

pub each_from-end : {X Y : Type 0} (faults : ℕ → X → List Y) (index i : ℕ) (xs : List X) → length xs ≤ i → first_of (each_from faults index (drop i xs)) ≡ None
each_from-end faults index i xs past = ap (λ rest. first_of (each_from faults index rest)) (drop_all i xs past)

-- the first of joined parts, for the search
pub ruleset first_fault = (first_of-front, first_of-back)
