-- Sums of whole numbers of either sign.
use Rattle.std.proofs.Common.{◌≡◌, ℕ, zero, suc, ◌+◌, ◌*◌, ◌<◌, ◌≤◌, List, [], ◌∷◌, ◌++◌, map, length, take, get_or, ℤ, pos, negsuc, neg_ℤ, ◌+ℤ◌, ◌-ℤ◌, ◌*ℤ◌, ◌≤ℤ◌, ap, sym, ◌∙◌, refl, inl, inr, arith, unsigned_abs}
use Rattle.std.proofs.Math.IntN.{zero-*ℤ, *ℤ_comm}
use Rattle.std.proofs.lemmas.Int.{ints}
use Rattle.std.proofs.lemmas.Bool.{cases_eq}
use Rattle.std.proofs.lemmas.List.{take_more}
use Rattle.std.proofs.lemmas.List.FromFn.{map-range_with_len_more}
use Rattle.std.specs.List.{range_with_len}
use Rattle.number_laws.specs.Sums.{sum_below}
use Rattle.number_laws.specs.SignedSums.{total_below, total_by, total_by_pairs}
use Rattle.number_laws.proofs.ProductLaws.{product-sum, sum-product}

-- ---- absolute values

pub abs-sum : (a b : ℤ) → unsigned_abs (a +ℤ b) ≤ unsigned_abs a + unsigned_abs b
abs-sum (pos a) (pos b) = omega (arith, ints)
abs-sum (pos a) (negsuc b) = grind (arith, ints)
abs-sum (negsuc a) (pos b) = grind (arith, ints)
abs-sum (negsuc a) (negsuc b) = omega (arith, ints)

pub abs-negative : (a : ℤ) → unsigned_abs (neg_ℤ a) ≡ unsigned_abs a
abs-negative (pos zero) = refl
abs-negative (pos (suc n)) = refl
abs-negative (negsuc n) = refl

pub abs-difference : (a b : ℤ) → unsigned_abs (a -ℤ b) ≤ unsigned_abs a + unsigned_abs b
abs-difference a b = omega (arith, abs-sum a (neg_ℤ b), abs-negative b)

pub abs-high : (a : ℤ) (n : ℕ) → unsigned_abs a ≤ n → a ≤ℤ pos n
abs-high (pos a) n within = omega (arith, ints)
abs-high (negsuc a) n within = omega (arith, ints)

-- ---- sums below a limit

pub total_below-more : (n : ℕ) (f : ℕ → ℤ) → total_below (n + 1) f ≡ total_below n f +ℤ f n
total_below-more n f = let next : n + 1 ≡ suc n = omega arith in rw next refl

pub total_below-same : (n : ℕ) (f g : ℕ → ℤ) → ((k : ℕ) → k < n → f k ≡ g k) → total_below n f ≡ total_below n g
total_below-same zero f g same = refl
total_below-same (suc n) f g same =
    let first = total_below-same n f g (λ k under. same k (omega arith)) in
    let last = same n (omega arith) in
    cc

pub total_below-split : (m n : ℕ) (f : ℕ → ℤ) → total_below (m + n) f ≡ total_below m f +ℤ total_below n (λ k. f (m + k))
total_below-split m zero f = let none : m + 0 ≡ m = omega arith in rw none (omega (arith, ints))
total_below-split m (suc n) f =
    let next : m + suc n ≡ suc (m + n) = omega arith in
    let first = total_below-split m n f in
    rw next (omega (arith, ints, first))

pub total_below-le : (n : ℕ) (f g : ℕ → ℤ) → ((k : ℕ) → k < n → f k ≤ℤ g k) → total_below n f ≤ℤ total_below n g
total_below-le zero f g below = omega (arith, ints)
total_below-le (suc n) f g below =
    let first = total_below-le n f g (λ k under. below k (omega arith)) in
    let last = below n (omega arith) in
    omega (arith, ints, first, last)

pub total_below-sum : (n : ℕ) (f g : ℕ → ℤ) → total_below n (λ k. f k +ℤ g k) ≡ total_below n f +ℤ total_below n g
total_below-sum zero f g = omega (arith, ints)
total_below-sum (suc n) f g = let first = total_below-sum n f g in omega (arith, ints, first)

pub total_below-difference : (n : ℕ) (f g : ℕ → ℤ) → total_below n (λ k. f k -ℤ g k) ≡ total_below n f -ℤ total_below n g
total_below-difference zero f g = omega (arith, ints)
total_below-difference (suc n) f g = let first = total_below-difference n f g in omega (arith, ints, first)

pub total_below-scaled : (n : ℕ) (a : ℤ) (f : ℕ → ℤ) → total_below n (λ k. a *ℤ f k) ≡ a *ℤ total_below n f
total_below-scaled zero a f = sym (*ℤ_comm a (pos 0) ∙ zero-*ℤ a)
total_below-scaled (suc n) a f =
    let first = total_below-scaled n a f in
    let parts = product-sum a (total_below n f) (f n) in
    cc

pub total_below-zeros : (n : ℕ) (f : ℕ → ℤ) → ((k : ℕ) → k < n → f k ≡ pos 0) → total_below n f ≡ pos 0
total_below-zeros zero f zeros = refl
total_below-zeros (suc n) f zeros =
    let first = total_below-zeros n f (λ k under. zeros k (omega arith)) in
    let last = zeros n (omega arith) in
    omega (arith, ints, first, last)

-- all but one of the terms are 0
pub total_below-single : (n i : ℕ) (f : ℕ → ℤ) → i < n → ((k : ℕ) → k < n → (k ≡ i → ⊥) → f k ≡ pos 0) → total_below n f ≡ f i
total_below-single zero i f there zeros = absurd (omega arith)
total_below-single (suc n) i f there zeros =
    elim (cases_eq i n) [
      | inl e ↦ let rest = total_below-zeros n f (λ k under. zeros k (omega arith) (λ (same : k ≡ i). omega arith)) in rw e (omega (arith, ints, rest))
      | inr apart ↦ let rest = total_below-single n i f (omega arith) (λ k under other. zeros k (omega arith) other) in
          let last = zeros n (omega arith) (λ (same : n ≡ i). apart (sym same)) in omega (arith, ints, rest, last)
    ]

pub total_below-abs : (n b : ℕ) (f : ℕ → ℤ) → ((k : ℕ) → k < n → unsigned_abs (f k) ≤ b) → unsigned_abs (total_below n f) ≤ n * b
total_below-abs zero b f within = omega arith
total_below-abs (suc n) b f within =
    let first = total_below-abs n b f (λ k under. within k (omega arith)) in
    let last = within n (omega arith) in
    let both = abs-sum (total_below n f) (f n) in
    omega (arith, first, last, both)

-- ---- sums over lists

pub total_by-append : {X : Type 0} (f : X → ℤ) (xs ys : List X) → total_by f (xs ++ ys) ≡ total_by f xs +ℤ total_by f ys
total_by-append f [] ys = omega (arith, ints)
total_by-append f (x ∷ xs) ys = let rest = total_by-append f xs ys in omega (arith, ints, rest)

pub total_by-more : {X : Type 0} (f : X → ℤ) (xs : List X) (i : ℕ) (d : X) → i < length xs → total_by f (take (i + 1) xs) ≡ total_by f (take i xs)
    +ℤ f (get_or xs i d)
total_by-more f xs i d there =
    let split = ap (total_by f) (take_more xs i d there) in
    let parts = total_by-append f (take i xs) (get_or xs i d ∷ []) in
    omega (arith, ints, split, parts)

pub total_by_pairs-more : {X Y : Type 0} (f : X → Y → ℤ) (xs : List X) (ys : List Y) (i : ℕ) (c : X) (d : Y) → i < length xs → i < length ys →
    total_by_pairs f (take (i + 1) xs) (take (i + 1) ys) ≡ total_by_pairs f (take i xs) (take i ys) +ℤ f (get_or xs i c) (get_or ys i d)
total_by_pairs-more f [] ys i c d first second = absurd (omega arith)
total_by_pairs-more f (x ∷ xs) [] i c d first second = absurd (omega arith)
total_by_pairs-more f (x ∷ xs) (y ∷ ys) zero c d first second = omega (arith, ints)
total_by_pairs-more f (x ∷ xs) (y ∷ ys) (suc i) c d first second =
    let next : suc i + 1 ≡ suc (i + 1) = omega arith in
    let rest = total_by_pairs-more f xs ys i c d (omega arith) (omega arith) in
    rw next (omega (arith, ints, rest))

pub total_by-same : {X : Type 0} (f g : X → ℤ) (xs : List X) → ((x : X) → f x ≡ g x) → total_by f xs ≡ total_by g xs
total_by-same f g [] same = refl
total_by-same f g (x ∷ xs) same = let rest = total_by-same f g xs same in let first = same x in cc

-- no term counts
pub total_by-zeros : {X : Type 0} (f : X → ℤ) (xs : List X) → total_by (λ x. pos 0 *ℤ f x) xs ≡ pos 0
total_by-zeros f [] = refl
total_by-zeros f (x ∷ xs) = let first = zero-*ℤ (f x) in let rest = total_by-zeros f xs in omega (arith, ints, first, rest)

pub total_by-sum : {X : Type 0} (f g : X → ℤ) (xs : List X) → total_by (λ x. f x +ℤ g x) xs ≡ total_by f xs +ℤ total_by g xs
total_by-sum f g [] = refl
total_by-sum f g (x ∷ xs) = let rest = total_by-sum f g xs in omega (arith, ints, rest)

pub total_by-scaled : {X : Type 0} (a : ℤ) (f : X → ℤ) (xs : List X) → total_by (λ x. a *ℤ f x) xs ≡ a *ℤ total_by f xs
total_by-scaled a f [] = sym (*ℤ_comm a (pos 0) ∙ zero-*ℤ a)
total_by-scaled a f (x ∷ xs) =
    let rest = total_by-scaled a f xs in
    let parts = product-sum a (f x) (total_by f xs) in
    cc

-- each item's sum below a limit, and the sums of the items below that limit
pub total_by-below : {X : Type 0} (n : ℕ) (f : X → ℕ → ℤ) (xs : List X) → total_below n (λ k. total_by (λ x. f x k) xs) ≡ total_by (λ x. total_below n (f x)) xs
total_by-below n f [] = total_below-zeros n (λ k. pos 0) (λ k under. refl)
total_by-below n f (x ∷ xs) =
    let rest = total_by-below n f xs in
    let parts = total_below-sum n (f x) (λ k. total_by (λ y. f y k) xs) in
    cc

pub total_by_pairs-below : {X Y : Type 0} (n : ℕ) (f : X → Y → ℕ → ℤ) (xs : List X) (ys : List Y) →
    total_below n (λ k. total_by_pairs (λ x y. f x y k) xs ys) ≡ total_by_pairs (λ x y. total_below n (f x y)) xs ys
total_by_pairs-below n f [] ys = total_below-zeros n (λ k. pos 0) (λ k under. refl)
total_by_pairs-below n f (x ∷ xs) [] = total_below-zeros n (λ k. pos 0) (λ k under. refl)
total_by_pairs-below n f (x ∷ xs) (y ∷ ys) =
    let rest = total_by_pairs-below n f xs ys in
    let parts = total_below-sum n (f x y) (λ k. total_by_pairs (λ v w. f v w k) xs ys) in
    cc

pub total_by_pairs-scaled : {X Y : Type 0} (a : ℤ) (f : X → Y → ℤ) (xs : List X) (ys : List Y) → total_by_pairs (λ x y. f x y *ℤ a) xs ys
    ≡ total_by_pairs f xs ys *ℤ a
total_by_pairs-scaled a f [] ys = sym (zero-*ℤ a)
total_by_pairs-scaled a f (x ∷ xs) [] = sym (zero-*ℤ a)
total_by_pairs-scaled a f (x ∷ xs) (y ∷ ys) =
    let rest = total_by_pairs-scaled a f xs ys in
    let parts = sum-product (f x y) (total_by_pairs f xs ys) a in
    cc

-- ---- of natural numbers, and of items made of the numbers below a limit

pub total_below-pos : (n : ℕ) (f : ℕ → ℕ) → total_below n (λ k. pos (f k)) ≡ pos (sum_below n f)
total_below-pos zero f = refl
total_below-pos (suc n) f = let first = total_below-pos n f in omega (arith, ints, first)

pub total_by-range : {X : Type 0} (f : X → ℤ) (g : ℕ → X) (n : ℕ) → total_by f (map g (range_with_len 0 n)) ≡ total_below n (λ k. f (g k))
total_by-range f g zero = refl
total_by-range f g (suc n) =
    let one : n + 1 ≡ suc n = omega arith in
    let more = ap (λ (m : ℕ). total_by f (map g (range_with_len 0 m))) (sym one) ∙ ap (total_by f) (map-range_with_len_more g 0 n n (omega arith)) in
    let parts = total_by-append f (map g (range_with_len 0 n)) (g n ∷ []) in
    let first = total_by-range f g n in
    omega (arith, ints, more, parts, first)
