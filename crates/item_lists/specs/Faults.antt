-- The faults that stand in a value, as the list of all of them in their order; what is answered is the first.
use Rattle.std.specs.Prelude.{ℕ, ◌+◌, Bool, true, false, Option, Some, None, List, [], ◌∷◌, ◌++◌}

-- the first item, where there is one
abbrev pub first_of : {X : Type 0} → List X → Option X
first_of [] = None
first_of (x ∷ xs) = Some x

-- no fault where the test holds, else this one
abbrev pub unless : {X : Type 0} → Bool → X → List X
unless true fault = []
unless false fault = fault ∷ []

-- what each item has, in order, the items numbered from index on
abbrev pub each_from : {X Y : Type 0} → (ℕ → X → List Y) → ℕ → List X → List Y
each_from faults index [] = []
each_from faults index (x ∷ xs) = faults index x ++ each_from faults (index + 1) xs
