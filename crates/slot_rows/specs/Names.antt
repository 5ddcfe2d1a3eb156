-- Which names of rows on slots and operations are names of a plant and of forms of n slots. Numbers that a family does
-- not have are 0.
use Rattle.std.specs.Prelude.{ℕ, Bool, ◌&&◌, ◌==◌, nat_lt, nat_le, List, length}
use Rattle.slot_box.specs.declared.term.RowName.{RowName}
use Rattle.plant_model.specs.declared.parts.Parts.{Parts}
use Rattle.plant_model.specs.Parts.{op_count_of}
use Rattle.plant_model.specs.Relations.{independent_of}
use Rattle.replay_core.specs.Rules.{unloads_later_vessel}

-- a slot of these forms
abbrev pub is_slot : ℕ → ℕ → Bool
is_slot n slot = nat_lt 0 slot && nat_le slot n

-- a slot behind which there is another
abbrev pub has_next : ℕ → ℕ → Bool
has_next n slot = nat_lt 0 slot && nat_lt slot n

-- two slots, the first one before the second
abbrev pub are_slots : ℕ → ℕ → ℕ → Bool
are_slots n i j = nat_lt 0 i && nat_lt i j && nat_le j n

-- an operation of the plant
abbrev pub is_operation : Parts → ℕ → Bool
is_operation parts v = nat_lt v (op_count_of parts)

-- 1, choice: a slot and one of two sides
abbrev pub is_choice_name : ℕ → RowName → Bool
is_choice_name n name = is_slot n name.a && nat_lt name.b 2 && name.c == 0 && name.d == 0

-- 2, volume, 3, rate, and 4, window: a slot, an operation and one of so many sides, of which a window has three and the
-- others two
abbrev pub is_sided_name : ℕ → Parts → ℕ → RowName → Bool
is_sided_name sides parts n name = is_slot n name.a && is_operation parts name.b && nat_lt name.c sides && name.d == 0

-- 8, clique: one of the cliques and two slots
abbrev pub is_clique_name : List ℕ → ℕ → RowName → Bool
is_clique_name cliques n name = nat_lt name.a (length cliques) && are_slots n name.b name.c && name.d == 0

-- 13, normal order: a slot that is not the last, and two operations that are independent, the greater one first
abbrev pub is_normal_name : Parts → ℕ → RowName → Bool
is_normal_name parts n name =
    has_next n name.a && is_operation parts name.b && nat_lt name.c name.b && name.d == 0
    && independent_of parts name.b name.c

-- 14, idle last: a slot that is not the last
abbrev pub is_idle_name : ℕ → RowName → Bool
is_idle_name n name = has_next n name.a && name.b == 0 && name.c == 0 && name.d == 0

-- 15, berth order: two slots, and two operations that unload at one berth, of which the first one's vessel stands later
-- in the list
abbrev pub is_berth_name : Parts → ℕ → RowName → Bool
is_berth_name parts n name =
    are_slots n name.a name.b && is_operation parts name.c && is_operation parts name.d
    && unloads_later_vessel parts name.c name.d
