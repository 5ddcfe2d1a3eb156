-- The rows on slots and operations by name.
use Rattle.std.specs.Prelude.{ℕ, Bool, ◌==◌, if◌then◌else◌, List, slice_index, Option, None, Some}
use Rattle.std.specs.Option.{option_map}
use Rattle.slot_box.specs.declared.term.RowName.{RowName}
use Rattle.linear_form.specs.Rows.{RowForm}
use Rattle.plant_model.specs.declared.parts.Parts.{Parts}
use Rattle.row_forms.specs.declared.piece.Inequality.{Inequality}
use Rattle.row_forms.specs.Terms.{row_of}
use Rattle.slot_rows.specs.Names.{is_choice_name, is_sided_name, is_clique_name, is_normal_name, is_idle_name, is_berth_name}
use Rattle.slot_rows.specs.Families.{choice_row, volume_row, rate_row, window_row, clique_row, normal_row, idle_row, berth_row}

-- the row, where the name is one
abbrev pub given : Bool → Inequality → Option Inequality
given is row = if is then Some row else None

-- what the row of the name says, and none where the name is none of these families, of this plant, of these cliques and
-- of n slots
unfoldable pub slot_inequality : Parts → List ℕ → ℕ → RowName → Option Inequality
slot_inequality parts cliques n name =
    if name.family == 1 then given (is_choice_name n name) (choice_row name.a name.b)
    else if name.family == 2 then given (is_sided_name 2 parts n name) (volume_row parts name.a name.b name.c)
    else if name.family == 3 then given (is_sided_name 2 parts n name) (rate_row parts name.a name.b name.c)
    else if name.family == 4 then given (is_sided_name 3 parts n name) (window_row parts name.a name.b name.c)
    else if name.family == 8
    then given (is_clique_name cliques n name) (clique_row parts (slice_index cliques name.a) name.b name.c)
    else if name.family == 13 then given (is_normal_name parts n name) (normal_row name.a name.b name.c)
    else if name.family == 14 then given (is_idle_name n name) (idle_row name.a)
    else if name.family == 15 then given (is_berth_name parts n name) (berth_row name.a name.b name.c name.d)
    else None

-- the row of the name
unfoldable pub slot_row_of : Parts → List ℕ → ℕ → RowName → Option RowForm
slot_row_of parts cliques n name = option_map (row_of parts n) (slot_inequality parts cliques n name)
