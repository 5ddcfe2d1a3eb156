-- Sums over the numbers below a limit.
use Rattle.std.proofs.Common.{◌≡◌, ℕ, zero, suc, inl, inr, ◌+◌, ◌<◌, ◌≤◌, Bool, true, false, List, [], ◌∷◌, length, take, get_or, sum, if◌then◌else◌, refl, sym, ap, ◌∙◌, arith}
use Rattle.std.specs.Prelude.{◌==◌, ◌&&◌, nat_lt, sum_by}
use Rattle.std.proofs.lemmas.Bool.{cases_eq, cases_lt, eq-eqb, ne_eqb, lt-ltb, le-ltb}
use Rattle.std.proofs.lemmas.List.{take_all}
use Rattle.std.proofs.lemmas.List.Sums.{sum_by-cons, sum_by_more, sum_by-append}
use Rattle.item_lists.specs.Joined.{joined_below}
use Rattle.number_laws.specs.Sums.{sum_below, when}

-- ---- a number where a test holds

pub when-zero : (b : Bool) → when b 0 ≡ 0
when-zero true = refl
when-zero false = refl

pub when-and : (a b : Bool) (n : ℕ) → when (a && b) n ≡ when a (when b n)
when-and true b n = refl
when-and false b n = refl

pub when-if : (b : Bool) (n : ℕ) → when b n ≡ (if b then n else 0)
when-if true n = refl
when-if false n = refl

-- ---- sums

-- one number more
pub sum_below-suc : (n : ℕ) (f : ℕ → ℕ) → sum_below (n + 1) f ≡ sum_below n f + f n
sum_below-suc n f = let next : n + 1 ≡ suc n = omega arith in rw next refl

-- each term is at most the sum
pub sum_below-term : (n : ℕ) (f : ℕ → ℕ) (i : ℕ) → i < n → f i ≤ sum_below n f
sum_below-term zero f i below = absurd (omega arith)
sum_below-term (suc n) f i below =
    elim (cases_eq i n) [
      | inl same ↦ let last = ap f same in omega arith
      | inr other ↦ let earlier = sum_below-term n f i (omega arith) in omega arith
    ]

-- a sum of greater terms is greater
pub sum_below-monotone : (n : ℕ) (f g : ℕ → ℕ) → ((i : ℕ) → f i ≤ g i) → sum_below n f ≤ sum_below n g
sum_below-monotone zero f g each = omega arith
sum_below-monotone (suc n) f g each = let earlier = sum_below-monotone n f g each in let last = each n in omega arith

pub sum_below-same : (n : ℕ) (f g : ℕ → ℕ) → ((k : ℕ) → k < n → f k ≡ g k) → sum_below n f ≡ sum_below n g
sum_below-same zero f g same = refl
sum_below-same (suc n) f g same =
    let first = sum_below-same n f g (λ k under. same k (omega arith)) in
    let last = same n (omega arith) in
    omega arith

pub sum_below-zeros : (n : ℕ) (f : ℕ → ℕ) → ((k : ℕ) → k < n → f k ≡ 0) → sum_below n f ≡ 0
sum_below-zeros zero f zeros = refl
sum_below-zeros (suc n) f zeros =
    let first = sum_below-zeros n f (λ k under. zeros k (omega arith)) in
    let last = zeros n (omega arith) in
    omega arith

-- past some numbers there is nothing
pub sum_below-cut : (m n : ℕ) (f : ℕ → ℕ) → m ≤ n → ((k : ℕ) → k < n → m ≤ k → f k ≡ 0) → sum_below n f ≡ sum_below m f
sum_below-cut m zero f within zeros = let same : m ≡ 0 = omega arith in rw same refl
sum_below-cut m (suc n) f within zeros =
    elim (cases_eq m (suc n)) [
      | inl same ↦ rw same refl
      | inr less ↦
          let first = sum_below-cut m n f (omega arith) (λ k under past. zeros k (omega arith) past) in
          let last = zeros n (omega arith) (omega arith) in
          omega arith
    ]

-- all but one are 0
pub sum_below-single : (n i : ℕ) (f : ℕ → ℕ) → i < n → ((k : ℕ) → k < n → (k ≡ i → ⊥) → f k ≡ 0) → sum_below n f ≡ f i
sum_below-single zero i f there zeros = absurd (omega arith)
sum_below-single (suc n) i f there zeros =
    elim (cases_eq i n) [
      | inl e ↦ let rest = sum_below-zeros n f (λ k under. zeros k (omega arith) (λ (same : k ≡ i). omega arith)) in rw e (omega arith)
      | inr apart ↦ let rest = sum_below-single n i f (omega arith) (λ k under other. zeros k (omega arith) other) in
          let last = zeros n (omega arith) (λ (same : n ≡ i). apart (sym same)) in omega arith
    ]

pub sum_below-at : (n d : ℕ) (f : ℕ → ℕ) → sum_below n (λ c. when (c == d) (f c)) ≡ when (nat_lt d n) (f d)
sum_below-at n d f =
    elim (cases_lt d n) [
      | inl there ↦
          let single = sum_below-single n d (λ c. when (c == d) (f c)) there (λ k under other. rw (ne_eqb k d other) refl) in
          rw (lt-ltb d n there) (single ∙ rw (eq-eqb d d refl) refl)
      | inr past ↦ rw (le-ltb d n past) (sum_below-zeros n (λ c. when (c == d) (f c))
          (λ k under. let other : k ≡ d → ⊥ = λ (same : k ≡ d). omega arith in rw (ne_eqb k d other) refl))
    ]

pub sum_below-front : (n : ℕ) (f : ℕ → ℕ) → sum_below (suc n) f ≡ f 0 + sum_below n (λ c. f (suc c))
sum_below-front zero f = omega arith
sum_below-front (suc n) f = (let e = sum_below-front n f in omega arith)

pub sum_below-list : (xs : List ℕ) → sum_below (length xs) (λ c. get_or xs c 0) ≡ sum xs
sum_below-list [] = refl
sum_below-list (x ∷ xs) =
    let front = sum_below-front (length xs) (λ c. get_or (x ∷ xs) c 0) in
    let rest = sum_below-list xs in
    let total = sum_by-cons (λ y. y) x xs in
    omega arith

-- ---- sums over the items of a list by their places

pub sum_by-first : {X : Type 0} (f : X → ℕ) (xs : List X) (d : X) (n : ℕ) → n ≤ length xs → sum_by f (take n xs) ≡ sum_below n (λ k. f (get_or xs k d))
sum_by-first f xs d zero within = refl
sum_by-first f xs d (suc n) within =
    let one : suc n ≡ n + 1 = omega arith in
    let next = ap (λ (m : ℕ). sum_by f (take m xs)) one ∙ sum_by_more f xs n d (omega arith) in
    let earlier = sum_by-first f xs d n (omega arith) in
    omega arith

pub sum_by-below : {X : Type 0} (f : X → ℕ) (xs : List X) (d : X) → sum_by f xs ≡ sum_below (length xs) (λ k. f (get_or xs k d))
sum_by-below f xs d = ap (sum_by f) (sym (take_all (length xs) xs (omega arith))) ∙ sum_by-first f xs d (length xs) (omega arith)

-- ---- sums over lists that are joined below a limit

-- a sum over them is a sum of sums
pub sum_by-joined_below : {X : Type 0} (g : X → ℕ) (n : ℕ) (f : ℕ → List X) → sum_by g (joined_below n f) ≡ sum_below n (λ k. sum_by g (f k))
sum_by-joined_below g zero f = refl
sum_by-joined_below g (suc n) f =
    let parted = sum_by-append g (joined_below n f) (f n) in
    let first = sum_by-joined_below g n f in
    omega arith

-- lists of one item each
pub sum_by-singles : {X : Type 0} (g : X → ℕ) (n : ℕ) (f : ℕ → X) → sum_by g (joined_below n (λ k. f k ∷ [])) ≡ sum_below n (λ k. g (f k))
sum_by-singles g zero f = refl
sum_by-singles g (suc n) f =
    let parted = sum_by-append g (joined_below n (λ k. f k ∷ [])) (f n ∷ []) in
    let last = sum_by-cons g (f n) [] in
    let first = sum_by-singles g n f in
    omega arith

-- term by term a sum of two
pub sum_below-sum : (n : ℕ) (f g h : ℕ → ℕ) → ((k : ℕ) → k < n → f k ≡ g k + h k) → sum_below n f ≡ sum_below n g + sum_below n h
sum_below-sum zero f g h each = refl
sum_below-sum (suc n) f g h each =
    let first = sum_below-sum n f g h (λ k under. each k (omega arith)) in
    let last = each n (omega arith) in
    omega arith
