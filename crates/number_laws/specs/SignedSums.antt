-- Sums of whole numbers of either sign.
use Rattle.std.specs.Prelude.{ℕ, zero, suc, List, [], ◌∷◌, ℤ, pos, ◌+ℤ◌}

-- f 0 + f 1 + .. up to the limit, which is not counted
abbrev pub total_below : ℕ → (ℕ → ℤ) → ℤ
total_below zero f = pos 0
total_below (suc n) f = total_below n f +ℤ f n

-- the sum over the items of a list
abbrev pub total_by : {X : Type 0} → (X → ℤ) → List X → ℤ
total_by f [] = pos 0
total_by f (x ∷ xs) = f x +ℤ total_by f xs

-- the sum over the pairs of a first with a first, a second with a second, and so on, as far as both lists go
abbrev pub total_by_pairs : {X Y : Type 0} → (X → Y → ℤ) → List X → List Y → ℤ
total_by_pairs f [] ys = pos 0
total_by_pairs f (x ∷ xs) [] = pos 0
total_by_pairs f (x ∷ xs) (y ∷ ys) = f x y +ℤ total_by_pairs f xs ys
