-- One write after another.
use Rattle.std.proofs.Common.{◌≡◌, List, ℕ, ◌++◌, Option, None, Some, append_assoc}
use Rattle.outer_edge.specs.Takes.{Takes}

-- what two writes took, taken together
pub Takes-append : (old mid new : Option (List ℕ)) (xs ys : List ℕ) → Takes old mid xs → Takes mid new ys → Takes old new (xs ++ ys)
Takes-append None mid new xs ys first second = tt
Takes-append (Some taken) mid new xs ys first second =
    let joined : new ≡ Some ((taken ++ xs) ++ ys) = rw first at second in rw append_assoc at joined
