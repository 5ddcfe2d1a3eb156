-- The rows on places and crudes by name.
use Rattle.std.specs.Prelude.{ℕ, Bool, ◌==◌, if◌then◌else◌, Option, None, Some}
use Rattle.std.specs.Option.{option_map}
use Rattle.slot_box.specs.declared.term.RowName.{RowName}
use Rattle.linear_form.specs.Rows.{RowForm}
use Rattle.plant_model.specs.declared.parts.Parts.{Parts}
use Rattle.row_forms.specs.declared.piece.Inequality.{Inequality}
use Rattle.row_forms.specs.Terms.{row_of}
use Rattle.tank_rows.specs.Names.{is_total_name, is_amount_name, is_limit_name, is_demand_name, is_emptied_name, is_minutes_name, is_charges_name, is_wait_name}
use Rattle.tank_rows.specs.Families.{total_row, amount_row, limit_row, demand_row, emptied_row, minutes_row, charges_row, wait_row}

-- the row, where the name is one
abbrev given : Bool → Inequality → Option Inequality
given is row = if is then Some row else None

-- what the row of the name says, and none where the name is none of these families, of this plant and of n slots
unfoldable pub tank_inequality : Parts → ℕ → RowName → Option Inequality
tank_inequality parts n name =
    if name.family == 5 then given (is_total_name parts n name) (total_row parts name.a name.b name.c)
    else if name.family == 6 then given (is_amount_name parts n name) (amount_row parts name.a name.b name.c)
    else if name.family == 7 then given (is_limit_name parts n name) (limit_row parts name.a name.b name.c name.d)
    else if name.family == 9 then given (is_demand_name parts name) (demand_row parts n name.a name.b)
    else if name.family == 10 then given (is_emptied_name parts name) (emptied_row parts n name.a name.b)
    else if name.family == 11 then given (is_minutes_name parts name) (minutes_row parts n name.a name.b)
    else if name.family == 12 then given (is_charges_name parts name) (charges_row parts n name.a name.b)
    else if name.family == 16 then given (is_wait_name parts n name) (wait_row parts name.a name.b)
    else None

-- the row of the name
abbrev pub tank_row_of : Parts → ℕ → RowName → Option RowForm
tank_row_of parts n name = option_map (row_of parts n) (tank_inequality parts n name)
