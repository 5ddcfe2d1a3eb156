-- Rows by name, of whichever family: on slots and operations, or on places and crudes.
use Rattle.std.specs.Prelude.{◌≡◌, ℕ, Option, Some, None}
use Rattle.linear_form.specs.Rows.{RowForm}
use Rattle.overlap_graph.specs.Cliques.{cliques_of}
use Rattle.plant_model.specs.declared.parts.Parts.{Parts}
use Rattle.slot_box.specs.declared.term.RowName.{RowName}
use Rattle.slot_rows.specs.SlotRows.{slot_row_of}
use Rattle.tank_rows.specs.TankRows.{tank_row_of}

-- the first of the two, and the second where there is none
abbrev pub or_the_other : Option RowForm → Option RowForm → Option RowForm
or_the_other (Some row) other = Some row
or_the_other None other = other

-- the row of the name; none where the name is of no family, or none of the plant and of n slots
unfoldable pub named_row_of : Parts → ℕ → RowName → Option RowForm
named_row_of parts n name = or_the_other (slot_row_of parts (cliques_of parts) n name) (tank_row_of parts n name)

-- the row has this name
pub record IsNamed (parts : Parts) (n : ℕ) (name : RowName) (row : RowForm) : Type 0 where
  pub is : named_row_of parts n name ≡ Some row
