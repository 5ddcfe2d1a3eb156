-- The numbers of a slot form, by its word: past the word each slot is idle.
use Rattle.std.specs.Prelude.{ℕ, ◌-◌, ◌==◌, nat_lt, if◌then◌else◌, List, length, slice_index, pos}
use Rattle.linear_form.specs.declared.column.TheConstants.{IDLE_ENTRY}
use Rattle.linear_form.specs.declared.column.Column.{Column}
use Rattle.linear_form.specs.declared.column.Part.{Part}
use Rattle.linear_form.specs.declared.column.Part.TheVariants.{Z, A, S, E, W}
use Rattle.linear_form.specs.Points.{Point}
use Rattle.plant_model.specs.declared.parts.Parts.{Parts}
use Rattle.replay_core.specs.declared.timed.Timed.{Timed}
use Rattle.replay_core.specs.Margin.{wait_of}
use Rattle.replay_core.specs.Steps.{step_at, draw_in}
use Rattle.number_laws.specs.Sums.{when}

-- the numbers of operation k of the word, counted from 0: it fills slot k + 1
abbrev pub part_of : Parts → List Timed → ℕ → Part → ℕ
part_of parts word k Z = 1
part_of parts word k (A crude) = slice_index (draw_in parts word k) crude
part_of parts word k S = (step_at word k).start
part_of parts word k E = (step_at word k).end
part_of parts word k W = 0

-- a number of an entry of slot k + 1: of the one that fills it, else 0
abbrev pub entry_number : Parts → List Timed → ℕ → ℕ → Part → ℕ
entry_number parts word k entry part =
    if nat_lt k (length word)
    then when ((step_at word k).op == entry) (part_of parts word k part)
    else when (entry == IDLE_ENTRY) 1

-- the number of a column; slot 0 has the vessels
abbrev pub number_in : Parts → List Timed → Column → ℕ
number_in parts word column =
    if column.slot == 0
    then wait_of parts word column.entry
    else entry_number parts word (column.slot - 1) column.entry column.part

-- the form as a point
abbrev pub numbers_of : Parts → List Timed → Point
numbers_of parts word = λ column. pos (number_in parts word column)
