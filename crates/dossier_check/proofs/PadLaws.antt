-- The weights of a cut's line, and nothing for each crude past the last of them.
use Rattle.std.proofs.Common.{◌≡◌, ℕ, zero, suc, ◌-◌, ◌≤◌, min, List, [], ◌∷◌, ◌++◌, length, take, drop, ℤ, pos, refl, sym, ap, arith}
use Rattle.std.specs.Prelude.{replicate}
use Rattle.std.proofs.lemmas.List.{take-replicate}

-- as many of the numbers as have room, and then the rest of the zeros that stood there
pub padded-by : (weights : List ℤ) (n m count : ℕ) → n ≤ m → count ≡ min (length weights) n →
    take count weights ++ drop count (replicate n (pos 0)) ≡ take n (weights ++ replicate m (pos 0))
padded-by weights zero m count room is = (let none : count ≡ 0 = omega arith in rw none refl)
padded-by [] (suc n) m count room is = (let none : count ≡ 0 = omega arith in rw none (sym (take-replicate (suc n) m (pos 0) room)))
padded-by (w ∷ weights) (suc n) m count room is =
    let more : count ≡ suc (count - 1) = omega arith in
    rw more (ap (λ (l : List ℤ). w ∷ l) (padded-by weights n m (count - 1) (omega arith) (omega arith)))
