-- Which leaves of a search tree are lawful, and which value each has.
use Rattle.std.specs.Prelude.{◌≡◌, ℕ, ◌<◌, ◌≤◌, ℤ, pos, ◌≤ℤ◌, int_lt, Bool, IsTrue, All, List, [], map, length, Option, Some, None}
use Rattle.dual_bound.specs.Dual.{dual_value, emptiness_sum}
use Rattle.limits.specs.declared.TheConstants.{MOST_MULTIPLIER}
use Rattle.linear_form.specs.Rows.{RowForm}
use Rattle.replay_core.specs.Margin.{margin_of}
use Rattle.slot_box.specs.declared.node.Leaf.{Leaf}
use Rattle.slot_box.specs.declared.node.Leaf.TheVariants.{Dead, Void, Dual, Undone, Point}
use Rattle.slot_box.specs.declared.slot.Slot.{Slot}
use Rattle.slot_box.specs.declared.term.Term.{Term}
use Rattle.slot_box.specs.declared.term.Term.TheVariants.{Row, Cut}
use Rattle.slot_box.specs.Boxes.{IsBox, IsPoint, HasOnePoint, only_point}
use Rattle.slot_box.specs.Entries.{Entry}
use Rattle.slot_forms.specs.Forms.{word_of, is_lawful_form, IsSought, point_value}
use Rattle.slot_rows.specs.Objective.{objective_of}
use Rattle.slot_rows.specs.Ranges.{ranges_of}
use Rattle.leaf_value.specs.Blocked.{IsBlocked}
use Rattle.leaf_value.specs.Settings.{Setting, row_named, has_row, cut_row_named, has_cut_row}

-- ---- entries

-- a row that says nothing; it stands for an entry that names none
abbrev pub no_row : RowForm
no_row = record { terms = []; right = pos 0 }

-- the row that is there, or that one
abbrev pub row_or_none : Option RowForm → RowForm
row_or_none None = no_row
row_or_none (Some row) = row

-- the row that an entry names
abbrev pub row_of_term : Setting → Term → RowForm
row_of_term setting (Row name y) = row_or_none (row_named setting name)
row_of_term setting (Cut cut slot op y) = row_or_none (cut_row_named setting cut slot op)

-- and its multiplier
abbrev pub multiplier_of : Term → ℕ
multiplier_of (Row name y) = y
multiplier_of (Cut cut slot op y) = y

-- those of all entries, in their order
abbrev pub rows_of : Setting → List Term → List RowForm
rows_of setting terms = map (row_of_term setting) terms

abbrev pub multipliers_of : List Term → List ℕ
multipliers_of terms = map multiplier_of terms

-- ---- values

-- the dual value of entries over the ranges of a box
unfoldable pub dual_value_of : Setting → List Slot → ℕ → List Term → ℤ
dual_value_of setting box q terms =
    dual_value (rows_of setting terms) (ranges_of setting.case.parts box)
    (objective_of setting.case.parts setting.case.slots) (multipliers_of terms) q

-- their rows contradict each other over the box, each taken as often as its multiplier says: their emptiness sum is
-- below 0
unfoldable pub are_contradictory : Setting → List Slot → List Term → Bool
are_contradictory setting box terms =
    int_lt (emptiness_sum (rows_of setting terms) (ranges_of setting.case.parts box) (multipliers_of terms)) (pos 0)

-- the value of a leaf over its box: the dual value of its entries, or the value of its one point; none where it is
-- shown that no form that is sought lies in the box
abbrev pub leaf_value_of : Setting → List Slot → Leaf → Option ℤ
leaf_value_of setting box (Dead at) = None
leaf_value_of setting box (Void terms) = None
leaf_value_of setting box (Dual q terms) = Some (dual_value_of setting box q terms)
leaf_value_of setting box (Undone q terms) = Some (dual_value_of setting box q terms)
leaf_value_of setting box Point = point_value setting.case (only_point box)

-- ---- lawful leaves

-- an entry names a row that there is, of a name or of a cut, with a multiplier within its limit
abbrev pub IsLawfulTerm : Setting → Term → Type 0
IsLawfulTerm setting (Row name y) = (y ≤ MOST_MULTIPLIER) × IsTrue (has_row setting name)
IsLawfulTerm setting (Cut cut slot op y) =
    (y ≤ MOST_MULTIPLIER) × (cut < length setting.cuts) × IsTrue (has_cut_row setting cut slot op)

-- each entry does
abbrev pub AreLawfulTerms : Setting → List Term → Type 0
AreLawfulTerms setting terms = All (IsLawfulTerm setting) terms

-- a denominator within its limits, and lawful entries
abbrev pub AreBounding : Setting → ℕ → List Term → Type 0
AreBounding setting q terms = (1 ≤ q) × (q ≤ MOST_MULTIPLIER) × AreLawfulTerms setting terms

-- what a leaf over a box has to be
abbrev pub IsLawfulLeaf : Setting → List Slot → Leaf → Type 0
IsLawfulLeaf setting box (Dead at) = IsBlocked setting.case box at
IsLawfulLeaf setting box (Void terms) = AreLawfulTerms setting terms × IsTrue (are_contradictory setting box terms)
IsLawfulLeaf setting box (Dual q terms) = AreBounding setting q terms
IsLawfulLeaf setting box (Undone q terms) = AreBounding setting q terms
IsLawfulLeaf setting box Point = HasOnePoint box

-- ---- laws

-- a value, no less than the margin
pub record Reaches (found : Option ℤ) (margin : ℤ) : Type 0 where
  pub value : ℤ
  pub is : found ≡ Some value
  pub most : margin ≤ℤ value

-- over a box with the slots of the case, a lawful leaf whose box has a lawful form that is sought has a value, which is
-- no less than the form's margin
abbrev pub LeavesReachForms : Setting → Type 0
LeavesReachForms setting =
    (box : List Slot) (leaf : Leaf) (point : List Entry) → IsBox box → length box ≡ setting.case.slots →
    IsLawfulLeaf setting box leaf → IsPoint box point
    → IsTrue (is_lawful_form setting.case point) → IsSought setting.case point
    → Reaches (leaf_value_of setting box leaf) (margin_of setting.case.parts (word_of point))
