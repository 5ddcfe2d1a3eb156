-- Ranges while they are set column by column.
use Rattle.std.specs.Prelude.{◌≡◌, ℕ, List, length}
use Rattle.linear_form.specs.declared.column.Column.{Column}
use Rattle.linear_form.specs.declared.column.Part.{Part}
use Rattle.linear_form.specs.Bounds.{Bounds, range_of}
use Rattle.linear_form.specs.Columns.{IsColumn}
use Rattle.plant_model.specs.declared.parts.Parts.{Parts}
use Rattle.linear_form.specs.Listed.{column_of}
use Rattle.row_forms.specs.Columns.{extent_of}
use Rattle.slot_box.specs.declared.slot.Slot.{Slot}
use Rattle.slot_rows.specs.Ranges.{interval_of, column_span}

-- the column has the range that the box gives it
abbrev pub IsGiven : Parts → List Slot → Bounds → Column → Type 0
IsGiven parts box bounds column = range_of bounds column ≡ interval_of (column_span parts box column)

-- the ranges are of the columns of the box's forms
abbrev pub AreOfBox : Parts → List Slot → Bounds → Type 0
AreOfBox parts box bounds = bounds.extent ≡ extent_of parts (length box)

-- still so, and each column that had its range has it
pub record KeepsGiven (parts : Parts) (box : List Slot) (old new : Bounds) : Type 0 where
  pub extent : AreOfBox parts box new
  pub kept : (column : Column) → IsColumn (extent_of parts (length box)) column → IsGiven parts box old column
      → IsGiven parts box new column

-- the columns of an operation in a slot have their ranges
abbrev pub IsOperationGiven : Parts → List Slot → Bounds → ℕ → ℕ → Type 0
IsOperationGiven parts box bounds slot v =
    (part : Part) → IsColumn (extent_of parts (length box)) (column_of slot v part)
    → IsGiven parts box bounds (column_of slot v part)

-- all columns of a slot do
abbrev pub IsSlotGiven : Parts → List Slot → Bounds → ℕ → Type 0
IsSlotGiven parts box bounds slot = (entry : ℕ) → IsOperationGiven parts box bounds slot entry
