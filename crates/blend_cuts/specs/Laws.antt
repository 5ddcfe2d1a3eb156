-- That the rows of cuts hold.
use Rattle.std.specs.Prelude.{◌≡◌, ℕ, ◌≤◌, List, length, Some}
use Rattle.linear_form.specs.Points.{IsMet}
use Rattle.linear_form.specs.Rows.{RowForm}
use Rattle.plant_model.specs.declared.parts.Parts.{Parts}
use Rattle.replay_core.specs.declared.order.Order.{Order}
use Rattle.replay_core.specs.declared.timed.Timed.{Timed}
use Rattle.replay_core.specs.Legal.{IsLegalIn}
use Rattle.row_forms.specs.Numbers.{numbers_of}
use Rattle.slot_box.specs.declared.cut.CutParams.{CutParams}
use Rattle.blend_cuts.specs.CutRows.{cut_row_of}

-- each row holds at the form of every word of at most so many operations that breaks no rule, whatever order is asked
-- for: over all draws as they are rounded
abbrev pub CutRowsHold : Parts → Type 0
CutRowsHold parts =
    (order : Order) (word : List Timed) (n : ℕ) (cut : CutParams) (slot v : ℕ) (row : RowForm) →
    IsLegalIn parts order word → length word ≤ n → cut_row_of parts n cut slot v ≡ Some row →
    IsMet (numbers_of parts word) row
