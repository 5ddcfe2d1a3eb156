-- How often a number stands in a list of numbers.
use Rattle.std.specs.Prelude.{◌≡◌, ℕ, suc, ◌+◌, ◌<◌, ◌≤◌, ◌==◌, if◌then◌else◌, List, [], ◌∷◌, ◌++◌}

-- one where the two numbers are the same, else none
abbrev pub one : ℕ → ℕ → ℕ
one x y = if x == y then 1 else 0

-- how often x stands in the list
abbrev pub times : ℕ → List ℕ → ℕ
times x [] = 0
times x (y ∷ ys) = one x y + times x ys

-- the list has each number below n once, in any order, and no other
pub record HasEachBelow (n : ℕ) (xs : List ℕ) : Type 0 where
  pub once : (x : ℕ) → x < n → times x xs ≡ 1
  pub no_other : (x : ℕ) → n ≤ x → times x xs ≡ 0

-- in two lists, one after the other, a number stands as often as in both together
abbrev pub CountsAdd : Type 0
CountsAdd = (x : ℕ) (xs ys : List ℕ) → times x (xs ++ ys) ≡ times x xs + times x ys

-- the empty list has each number below 0
abbrev pub NoneAreBelow : Type 0
NoneAreBelow = HasEachBelow 0 []

-- the next number makes a list of one more
abbrev pub NextIsAdded : Type 0
NextIsAdded = (n : ℕ) (xs : List ℕ) → HasEachBelow n xs → HasEachBelow (suc n) (xs ++ n ∷ [])
