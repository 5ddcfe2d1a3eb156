-- That fit rows and objectives of a plant can be weighed against each other over the ranges of a box.
use Rattle.std.specs.Prelude.{ℕ, ◌^◌, ◌≤◌, pos, ◌≤ℤ◌, List, [], length, All, FitsSigned}
use Rattle.std.specs.Int.{w64}
use Rattle.limits.specs.declared.TheConstants.{MOST_ROWS}
use Rattle.dual_bound.specs.Conditions.{IsSystem, IsObjective}
use Rattle.dual_bound.specs.Dual.{dual_value}
use Rattle.dual_bound.specs.Laws.{greatest_loss}
use Rattle.linear_form.specs.declared.row.RowTerm.{RowTerm}
use Rattle.linear_form.specs.Bounds.{Bounds}
use Rattle.linear_form.specs.Rows.{RowForm}
use Rattle.plant_model.specs.declared.parts.Parts.{Parts}
use Rattle.row_forms.specs.Fits.{AreFitTerms, IsFitRow}
use Rattle.slot_box.specs.declared.slot.Slot.{Slot}
use Rattle.slot_box.specs.Boxes.{IsBox}
use Rattle.slot_rows.specs.Objective.{objective_of}
use Rattle.slot_rows.specs.Ranges.{ranges_of}

-- whatever fit rows are taken, not too many, they can be weighed over the ranges
abbrev pub WeighFitRows : Parts → ℕ → Bounds → Type 0
WeighFitRows parts n bounds =
    (rows : List RowForm) → length rows ≤ MOST_ROWS → All (IsFitRow parts n) rows → IsSystem rows bounds

-- and so can any fit objective
abbrev pub WeighFitTerms : Parts → ℕ → Bounds → Type 0
WeighFitTerms parts n bounds = (terms : List RowTerm) → AreFitTerms parts n terms → IsObjective bounds terms

-- without rows, the dual value of the plant's objective over a box fits 64 bits
abbrev pub PlainValuesFit : Parts → Type 0
PlainValuesFit parts =
    (box : List Slot) → IsBox box → FitsSigned w64
    (dual_value [] (ranges_of parts box) (objective_of parts (length box)) [] 1)

-- nothing within the ranges of a box brings the plant's objective below -2^62
abbrev pub LossesFit : Parts → Type 0
LossesFit parts =
    (box : List Slot) → IsBox box
    → greatest_loss (ranges_of parts box) (objective_of parts (length box)) ≤ℤ pos (2 ^ 62)
