-- That the rows on places and crudes hold.
use Rattle.std.specs.Prelude.{◌≡◌, ℕ, ◌≤◌, List, length, Some}
use Rattle.linear_form.specs.Points.{IsMet}
use Rattle.linear_form.specs.Rows.{RowForm}
use Rattle.plant_model.specs.declared.parts.Parts.{Parts}
use Rattle.replay_core.specs.declared.order.Order.{Order}
use Rattle.replay_core.specs.declared.timed.Timed.{Timed}
use Rattle.replay_core.specs.Legal.{IsLegalIn}
use Rattle.row_forms.specs.Numbers.{numbers_of}
use Rattle.slot_box.specs.declared.term.RowName.{RowName}
use Rattle.tank_rows.specs.TankRows.{tank_row_of}

-- each row holds at the form of every word of at most so many operations that breaks no rule, whatever order is asked for
abbrev pub TankRowsHold : Parts → Type 0
TankRowsHold parts =
    (order : Order) (word : List Timed) (n : ℕ) (name : RowName) (row : RowForm) →
    IsLegalIn parts order word → length word ≤ n → tank_row_of parts n name ≡ Some row →
    IsMet (numbers_of parts word) row
