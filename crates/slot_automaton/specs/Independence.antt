-- Which operations are independent of which.
use Rattle.std.specs.Prelude.{ℕ, List, slice_index, IsBitSet}

-- operation `a` is independent of `b`: bit `a` of the mask of `b` is set
abbrev pub IsIndependent : List ℕ → ℕ → ℕ → Type 0
IsIndependent masks a b = IsBitSet (slice_index masks b) a
