-- Sets of operations as masks: bit v says that operation v is a member.
use Rattle.std.specs.Prelude.{ℕ, zero, suc, ◌^◌, Bool, ◌==◌, if◌then◌else◌, bit_and, bit_or}

-- the numbers below the limit that pass the test
abbrev pub set_of : ℕ → (ℕ → Bool) → ℕ
set_of zero test = 0
set_of (suc n) test = if test n then bit_or (set_of n test) (2 ^ n) else set_of n test

-- the set with one more member
abbrev pub with_member : ℕ → ℕ → ℕ
with_member set v = bit_or set (2 ^ v)

-- each member of the first is one of the second
abbrev pub is_within : ℕ → ℕ → Bool
is_within set other = bit_and set other == set
