-- What rows say of the forms in a box, those that have names and those of cuts.
use Rattle.std.specs.Prelude.{◌≡◌, ℕ, ◌-◌, ◌≤◌, pos, ◌≤ℤ◌, ◌<ℤ◌, IsTrue, List, Some, drop, length, All}
use Rattle.blend_cuts.specs.CutRows.{cut_row_of}
use Rattle.dual_bound.specs.Conditions.{IsWithin}
use Rattle.dual_bound.specs.Dual.{dual_value, emptiness_sum}
use Rattle.linear_form.specs.Points.{LiesIn, value_at}
use Rattle.linear_form.specs.Rows.{RowForm}
use Rattle.normal_order.specs.NormalWords.{IsNormalWord}
use Rattle.plant_model.specs.declared.parts.Parts.{Parts}
use Rattle.replay_core.specs.declared.order.Order.{Order}
use Rattle.replay_core.specs.Legal.{IsLegalIn}
use Rattle.replay_core.specs.Margin.{margin_of}
use Rattle.row_forms.specs.Numbers.{numbers_of}
use Rattle.slot_box.specs.declared.cut.CutParams.{CutParams}
use Rattle.slot_box.specs.declared.slot.Slot.{Slot}
use Rattle.slot_box.specs.declared.term.RowName.{RowName}
use Rattle.slot_box.specs.declared.split.Split.{Split}
use Rattle.slot_box.specs.Boxes.{IsBox, IsPoint}
use Rattle.slot_box.specs.Entries.{Entry}
use Rattle.slot_box.specs.Splits.{IsLawfulSplit, left_of, right_of}
use Rattle.slot_forms.specs.Forms.{word_of, is_form}
use Rattle.slot_rows.specs.Objective.{objective_of}
use Rattle.slot_rows.specs.Ranges.{ranges_of}
use Rattle.named_rows.specs.NamedRows.{IsNamed}

-- a form in the box: a point of it whose word breaks no rule, whatever order is asked for
pub record IsFormIn (parts : Parts) (order : Order) (box : List Slot) (point : List Entry) : Type 0 where
  pub there : IsPoint box point
  pub form : IsTrue (is_form point)
  pub legal : IsLegalIn parts order (word_of point)

-- the name is not one of normal order, unless the word is normal from its slot on
abbrev pub MayBe : Parts → List Entry → RowName → Type 0
MayBe parts point name = name.family ≡ 13 → IsNormalWord parts (drop (name.a - 1) (word_of point))

-- the row is lawful over forms of n slots, where it is held against this one: it has a name, which may be; or it is the
-- row of a valid cut, for a slot and an operation
pub data IsLawfulRow (parts : Parts) (n : ℕ) (point : List Entry) (row : RowForm) : Type 0 where
  of_name : (name : RowName) → IsNamed parts n name row → MayBe parts point name → IsLawfulRow parts n point row
  of_cut : (cut : CutParams) (slot op : ℕ) → cut_row_of parts n cut slot op ≡ Some row → IsLawfulRow parts n point row

-- each row is
abbrev pub AreLawfulRows : Parts → ℕ → List Entry → List RowForm → Type 0
AreLawfulRows parts n point rows = All (IsLawfulRow parts n point) rows

-- the numbers of a form in a box lie in the ranges of the box
abbrev pub FormsLieInRanges : Parts → Type 0
FormsLieInRanges parts =
    (order : Order) (box : List Slot) (point : List Entry) → IsFormIn parts order box point →
    LiesIn (ranges_of parts box) (numbers_of parts (word_of point))

-- and the objective comes to its margin there
abbrev pub ObjectivesAreMargins : Parts → Type 0
ObjectivesAreMargins parts =
    (order : Order) (box : List Slot) (point : List Entry) → IsFormIn parts order box point →
    value_at (objective_of parts (length box)) (numbers_of parts (word_of point)) ≡ margin_of parts (word_of point)

-- no form in a box has a margin above the dual value of lawful rows over the box, whatever their multipliers; rows of
-- normal order bound normal words alone
abbrev pub DualValuesBoundMargins : Parts → Type 0
DualValuesBoundMargins parts =
    (order : Order) (box : List Slot) (point : List Entry) (rows : List RowForm) (multipliers : List ℕ) (q : ℕ) →
    IsFormIn parts order box point → AreLawfulRows parts (length box) point rows → 1 ≤ q →
    margin_of parts (word_of point)
    ≤ℤ dual_value rows (ranges_of parts box) (objective_of parts (length box)) multipliers q

-- a box whose emptiness sum by lawful rows is below 0 has no form
abbrev pub EmptyBoxesHaveNoForm : Parts → Type 0
EmptyBoxesHaveNoForm parts =
    (order : Order) (box : List Slot) (point : List Entry) (rows : List RowForm) (multipliers : List ℕ) →
    AreLawfulRows parts (length box) point rows →
    emptiness_sum rows (ranges_of parts box) multipliers <ℤ pos 0 → IsFormIn parts order box point → ⊥

-- the parts of a lawful split have ranges within those of the box
abbrev pub PartsHaveNarrowerRanges : Parts → Type 0
PartsHaveNarrowerRanges parts =
    (box : List Slot) (split : Split) → IsBox box → IsLawfulSplit box split →
    IsWithin (ranges_of parts (left_of box split)) (ranges_of parts box)
    × IsWithin (ranges_of parts (right_of box split)) (ranges_of parts box)
