-- What every place holds while operations run one after the other: amounts crude by crude, in the order of places.
-- A unit holds what it has got so far.
use Rattle.std.specs.Prelude.{ℕ, List, [], map, fold, replicate, slice_index_or, slice_set}
use Rattle.crude_amounts.specs.Draw.{draw_of}
use Rattle.crude_amounts.specs.Amounts.{mix_of, rest_of}
use Rattle.plant_model.specs.declared.parts.Parts.{Parts}
use Rattle.plant_model.specs.Parts.{natural, crude_count_of, per_place, op_of}
use Rattle.replay_core.specs.declared.timed.Timed.{Timed}

-- before the first operation: what vessels and tanks hold at first, and empty units
unfoldable pub initial_state : Parts → List (List ℕ)
initial_state parts =
    per_place (λ vessel. map natural vessel.amounts) (λ tank. map natural tank.amounts)
    (λ tank. map natural tank.amounts) (λ part. replicate (crude_count_of parts) 0) parts

-- what place p holds, crude by crude
abbrev pub held_of : List (List ℕ) → ℕ → List ℕ
held_of state p = slice_index_or state p []

-- what the operation draws from its source
unfoldable pub drawn_of : Parts → List (List ℕ) → Timed → List ℕ
drawn_of parts state t = draw_of (held_of state (op_of parts t.op).from) t.volume

-- the amounts are taken from one place and added to another
abbrev pub moved : List (List ℕ) → ℕ → ℕ → List ℕ → List (List ℕ)
moved state from to amounts =
    let left = slice_set state from (rest_of (held_of state from) amounts) in
    slice_set left to (mix_of (held_of left to) amounts)

-- once the operation has run: its source has lost what was drawn, and its destination has got it
unfoldable pub after_step : Parts → List (List ℕ) → Timed → List (List ℕ)
after_step parts state t =
    let op = op_of parts t.op in
    moved state op.from op.to (drawn_of parts state t)

-- once all these operations have run, in order
unfoldable pub state_after : Parts → List Timed → List (List ℕ)
state_after parts steps = fold (after_step parts) (initial_state parts) steps

-- what the operation draws where these have run before it
abbrev pub draw_at : Parts → List Timed → Timed → List ℕ
draw_at parts before t = drawn_of parts (state_after parts before) t
