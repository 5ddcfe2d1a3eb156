-- Whole numbers that may be missing, in their order: none is below each number.
use Rattle.std.specs.Prelude.{ℤ, ◌≤ℤ◌, ⊤, int_lt, if◌then◌else◌, Option, Some, None}

-- the greater of two
abbrev pub greater : Option ℤ → Option ℤ → Option ℤ
greater None value = value
greater (Some best) None = Some best
greater (Some best) (Some value) = Some (if int_lt best value then value else best)

-- the first is none, or a number that the second reaches
abbrev pub IsAtMost : Option ℤ → Option ℤ → Type 0
IsAtMost None most = ⊤
IsAtMost (Some value) None = ⊥
IsAtMost (Some value) (Some most) = value ≤ℤ most
