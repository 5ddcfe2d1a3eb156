-- The picks that a number gives, one after the other: a chain of states of 32 bits, of which each pick takes the upper
-- half. Picks are counted from 0.
use Rattle.std.specs.Prelude.{ℕ, zero, suc, ◌+◌, ◌*◌, ◌/◌, ◌%◌}

-- the state behind a state: the lower 32 bits of a product and a sum
abbrev pub next_state : ℕ → ℕ
next_state state = (state * 1103515245 + 12345) % 4294967296

-- the state behind so many picks; at first it is the number itself
unfoldable pub state_after : ℕ → ℕ → ℕ
state_after number zero = number
state_after number (suc picks) = next_state (state_after number picks)

-- what is drawn for a pick: the upper 16 bits of the state that it leads to
unfoldable pub draw_of : ℕ → ℕ → ℕ
draw_of number place = state_after number (place + 1) / 65536

-- a pick of one of so many numbers, from 0 on
abbrev pub pick : ℕ → ℕ → ℕ → ℕ
pick number place count = draw_of number place % count
