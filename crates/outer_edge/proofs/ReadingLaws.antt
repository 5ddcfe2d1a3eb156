-- One read after another.
use Rattle.std.proofs.Common.{List, ℕ, ◌++◌, ◌+◌, ◌≤◌, length, take, Option, None, Some, append_assoc, arith, length-append, length-take, ◌∙◌, ap}
use Rattle.std.specs.Io.KnownBytes.{Consumes}
use Rattle.outer_edge.specs.Reading.{ConsumesAtMost}

-- what two reads gave, taken together
pub Consumes-append : (old mid new : Option (List ℕ)) (xs ys : List ℕ) → Consumes old mid xs → Consumes mid new ys → Consumes old new (xs ++ ys)
Consumes-append None mid new xs ys first second = tt
Consumes-append (Some all) None new xs ys first second = absurd first
Consumes-append (Some all) (Some rest) None xs ys first second = absurd second
Consumes-append (Some all) (Some rest) (Some left) xs ys first second =
    rw append_assoc (first ∙ ap (λ tail. xs ++ tail) second)

-- as many bytes as the limit allows, and one more read that may go one byte past it
pub ConsumesAtMost-append : (old mid new : Option (List ℕ)) (xs buffer : List ℕ) (n most : ℕ) → Consumes old mid xs → Consumes mid new (take n buffer) →
    length xs + length buffer ≤ most → ConsumesAtMost old new most
ConsumesAtMost-append old mid new xs buffer n most first second short = (
  xs ++ take n buffer,
  Consumes-append old mid new xs (take n buffer) first second,
  omega (arith, length-append xs (take n buffer), length-take n buffer),
)
