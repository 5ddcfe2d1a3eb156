-- Rows that have names, and those of cuts, bound the margins of the forms in a box.
use Rattle.std.proofs.Common.{◌≡◌, ℕ, ◌≤◌, ◌⊎◌, inl, inr, Bool, true, false, if◌then◌else◌, List, [], ◌∷◌, length, get_or, ℤ, ◌≤ℤ◌, sym, refl, subst, arith}
use Rattle.std.specs.Prelude.{Option, Some, None, All}
use Rattle.std.specs.Option.{option_map}
use Rattle.blend_cuts.specs.CutRows.{cut_inequality, has_row, cut_row_of}
use Rattle.blend_cuts.specs.Laws.{CutRowsHold}
use Rattle.dual_bound.specs.Conditions.{AreColumns}
use Rattle.dual_bound.specs.Dual.{dual_value}
use Rattle.dual_bound.proofs.DualLaws.{value-bounds_points, negative-has_no_point}
use Rattle.linear_form.specs.Points.{IsMet, MeetsRows, LiesIn as LiesInRanges}
use Rattle.linear_form.specs.Rows.{RowForm}
use Rattle.overlap_graph.specs.Cliques.{cliques_of, EachIsClique}
use Rattle.plant_model.specs.declared.parts.Parts.{Parts}
use Rattle.plant_model.specs.Sound.{SoundPlant}
use Rattle.replay_core.specs.declared.order.Order.{Order}
use Rattle.replay_core.specs.declared.timed.Timed.{Timed}
use Rattle.replay_core.specs.Margin.{margin_of}
use Rattle.replay_core.proofs.StepLaws.{CanRun-legal}
use Rattle.row_forms.specs.declared.piece.Inequality.{Inequality}
use Rattle.row_forms.specs.Columns.{extent_of}
use Rattle.row_forms.specs.Laws.{TermsAreOfColumns}
use Rattle.row_forms.specs.Numbers.{numbers_of}
use Rattle.row_forms.specs.Terms.{row_of}
use Rattle.slot_box.specs.declared.cut.CutParams.{CutParams}
use Rattle.slot_box.specs.declared.slot.Slot.{Slot}
use Rattle.slot_box.specs.declared.term.RowName.{RowName}
use Rattle.slot_box.specs.Boxes.{IsPoint}
use Rattle.slot_box.specs.Entries.{Entry, idle, runs}
use Rattle.slot_box.specs.Laws.{EntriesAreLive}
use Rattle.slot_forms.specs.Forms.{word_of}
use Rattle.slot_rows.specs.Laws.{SlotRowsHold}
use Rattle.slot_rows.specs.Objective.{objective_of}
use Rattle.slot_rows.specs.Ranges.{ranges_of}
use Rattle.slot_rows.specs.SlotRows.{slot_inequality, slot_row_of}
use Rattle.tank_rows.specs.Laws.{TankRowsHold}
use Rattle.tank_rows.specs.TankRows.{tank_inequality, tank_row_of}
use Rattle.word_flows.specs.Runs.{IsRun}
use Rattle.word_flows.proofs.RunLaws.{can_run_is_run}
use Rattle.named_rows.specs.NamedRows.{or_the_other, named_row_of, IsNamed}
use Rattle.named_rows.specs.Laws.{IsFormIn, MayBe, IsLawfulRow, of_name, of_cut, AreLawfulRows, FormsLieInRanges, ObjectivesAreMargins, DualValuesBoundMargins, EmptyBoxesHaveNoForm}
use Rattle.named_rows.proofs.ObjectiveLaws.{objective-is_margin}
use Rattle.named_rows.proofs.RangeLaws.{ranges_hold_at}

-- ---- of which family a row is

from_either : (a b : Option RowForm) (row : RowForm) → or_the_other a b ≡ Some row → (a ≡ Some row) ⊎ (b ≡ Some row)
from_either (Some own) b row same = inl same
from_either None b row same = inr same

family-of : (parts : Parts) (n : ℕ) (name : RowName) (row : RowForm) → IsNamed parts n name row →
    (slot_row_of parts (cliques_of parts) n name ≡ Some row) ⊎ (tank_row_of parts n name ≡ Some row)
unfolding named_row_of
family-of parts n name row named = from_either (slot_row_of parts (cliques_of parts) n name) (tank_row_of parts n name) row named.is

-- ---- a row's columns

mapped-columns : (parts : Parts) (n : ℕ) (given : Option Inequality) (row : RowForm) → TermsAreOfColumns parts → option_map (row_of parts n) given ≡ Some row →
    AreColumns (extent_of parts n) row.terms
mapped-columns parts n None row columns same = cc
mapped-columns parts n (Some inequality) row columns same =
    let is : row_of parts n inequality ≡ row = cc in
    subst (λ (r : RowForm). AreColumns (extent_of parts n) r.terms) is (columns n inequality.pieces)

chosen-columns : (parts : Parts) (n : ℕ) (has : Bool) (given : Inequality) (row : RowForm) → TermsAreOfColumns parts →
    (if has then Some (row_of parts n given) else None) ≡ Some row → AreColumns (extent_of parts n) row.terms
chosen-columns parts n true given row columns same =
    let is : row_of parts n given ≡ row = cc in
    subst (λ (r : RowForm). AreColumns (extent_of parts n) r.terms) is (columns n given.pieces)
chosen-columns parts n false given row columns same = cc

slot-columns : (parts : Parts) (cliques : List ℕ) (n : ℕ) (name : RowName) (row : RowForm) → TermsAreOfColumns parts →
    slot_row_of parts cliques n name ≡ Some row → AreColumns (extent_of parts n) row.terms
unfolding slot_row_of
slot-columns parts cliques n name row columns same = mapped-columns parts n (slot_inequality parts cliques n name) row columns same

cut-columns : (parts : Parts) (n : ℕ) (cut : CutParams) (slot op : ℕ) (row : RowForm) → TermsAreOfColumns parts →
    cut_row_of parts n cut slot op ≡ Some row → AreColumns (extent_of parts n) row.terms
cut-columns parts n cut slot op row columns same =
    chosen-columns parts n (has_row parts n cut slot op) (cut_inequality parts cut slot op) row columns same

named-columns : (parts : Parts) (n : ℕ) (name : RowName) (row : RowForm) → TermsAreOfColumns parts → IsNamed parts n name row →
    AreColumns (extent_of parts n) row.terms
named-columns parts n name row columns named =
    elim (family-of parts n name row named) [
      | inl slot ↦ slot-columns parts (cliques_of parts) n name row columns slot
      | inr tank ↦ mapped-columns parts n (tank_inequality parts n name) row columns tank
    ]

lawful-columns : (parts : Parts) (n : ℕ) (point : List Entry) (row : RowForm) → TermsAreOfColumns parts → IsLawfulRow parts n point row →
    AreColumns (extent_of parts n) row.terms
lawful-columns parts n point row columns (of_name name named may) = named-columns parts n name row columns named
lawful-columns parts n point row columns (of_cut cut slot op same) = cut-columns parts n cut slot op row columns same

-- ---- forms in a box

word-short : (box : List Slot) (point : List Entry) → IsPoint box point → length (word_of point) ≤ length box
word-short [] [] is = omega arith
word-short [] (e ∷ point) is = absurd is
word-short (s ∷ box) [] is = absurd is
word-short (s ∷ box) (idle ∷ point) is = (let rest = word-short box point is.1 in omega arith)
word-short (s ∷ box) (runs op start end volume ∷ point) is = (let rest = word-short box point is.1 in omega arith)

range-extent : (parts : Parts) (box : List Slot) → (ranges_of parts box).extent ≡ extent_of parts (length box)
unfolding ranges_of
range-extent parts box = refl

objective-columns : (parts : Parts) (n : ℕ) → TermsAreOfColumns parts → AreColumns (extent_of parts n) (objective_of parts n)
unfolding objective_of
objective-columns parts n columns = columns n _

module _ (parts : Parts) (slots : SlotRowsHold parts) (tanks : TankRowsHold parts) (cuts : CutRowsHold parts) (cliques : EachIsClique parts) (columns : TermsAreOfColumns parts)
    (lives : EntriesAreLive) (sound : SoundPlant parts) (order : Order) (box : List Slot) (point : List Entry) (is : IsFormIn parts order box point)
    (rows : List RowForm) (lawful : AreLawfulRows parts (length box) point rows) where
  abbrev word : List Timed
  word = word_of point

  abbrev n : ℕ
  n = length box

  run : IsRun parts word
  run = can_run_is_run parts order word (CanRun-legal parts order word is.legal)

  few : (ranges_of parts box).extent.ops ≤ 255
  few = (let same = range-extent parts box in let most = sound.ops in rw same (omega arith))

  named-met : (name : RowName) (row : RowForm) → IsNamed parts n name row → MayBe parts point name → IsMet (numbers_of parts word) row
  named-met name row has may =
      elim (family-of parts n name row has) [
        | inl slot ↦ slots order word (cliques_of parts) n name row is.legal cliques may slot
        | inr tank ↦ tanks order word n name row is.legal (word-short box point is.there) tank
      ]

  row-met : (row : RowForm) → IsLawfulRow parts n point row → IsMet (numbers_of parts word) row
  row-met row (of_name name has may) = named-met name row has may
  row-met row (of_cut cut slot op same) = cuts order word n cut slot op row is.legal (word-short box point is.there) same

  met : MeetsRows rows (numbers_of parts word)
  met i d inside = row-met (get_or rows i d) (lawful i d inside)

  all_columns : All (λ (row : RowForm). AreColumns (ranges_of parts box).extent row.terms) rows
  all_columns i d inside =
      subst (λ extent. AreColumns extent (get_or rows i d).terms) (sym (range-extent parts box))
      (lawful-columns parts n point (get_or rows i d) columns (lawful i d inside))

  lies : LiesInRanges (ranges_of parts box) (numbers_of parts word)
  lies = ranges_hold_at parts box point lives sound is.there is.form run

  pub margin-bounded : (multipliers : List ℕ) (q : ℕ) → 1 ≤ q →
      margin_of parts word ≤ℤ dual_value rows (ranges_of parts box) (objective_of parts n) multipliers q
  margin-bounded multipliers q some =
      let goals = subst (λ extent. AreColumns extent (objective_of parts n)) (sym (range-extent parts box)) (objective-columns parts n columns) in
      let bounded = value-bounds_points rows (ranges_of parts box) (objective_of parts n) multipliers q few some all_columns goals (numbers_of parts word) met lies in
      let margin = objective-is_margin parts order n word sound (CanRun-legal parts order word is.legal) (word-short box point is.there) in
      subst (λ (m : ℤ). m ≤ℤ dual_value rows (ranges_of parts box) (objective_of parts n) multipliers q) margin bounded

pub dual_values_bound_margins : (parts : Parts) → SlotRowsHold parts → TankRowsHold parts → CutRowsHold parts → EachIsClique parts → TermsAreOfColumns parts → EntriesAreLive →
    SoundPlant parts → DualValuesBoundMargins parts
dual_values_bound_margins parts slots tanks cuts cliques columns lives sound order box point rows multipliers q is lawful some =
    margin-bounded parts slots tanks cuts cliques columns lives sound order box point is rows lawful multipliers q some

pub empty_boxes_have_no_form : (parts : Parts) → SlotRowsHold parts → TankRowsHold parts → CutRowsHold parts → EachIsClique parts → TermsAreOfColumns parts → EntriesAreLive →
    SoundPlant parts → EmptyBoxesHaveNoForm parts
empty_boxes_have_no_form parts slots tanks cuts cliques columns lives sound order box point rows multipliers lawful negative is =
    negative-has_no_point rows (ranges_of parts box) multipliers (few parts slots tanks cuts cliques columns lives sound order box point is rows lawful)
    (all_columns parts slots tanks cuts cliques columns lives sound order box point is rows lawful) negative (numbers_of parts (word_of point))
    (met parts slots tanks cuts cliques columns lives sound order box point is rows lawful)
    (lies parts slots tanks cuts cliques columns lives sound order box point is rows lawful)

pub forms_lie_in_ranges : (parts : Parts) → EntriesAreLive → SoundPlant parts → FormsLieInRanges parts
forms_lie_in_ranges parts lives sound order box point is =
    ranges_hold_at parts box point lives sound is.there is.form
    (can_run_is_run parts order (word_of point) (CanRun-legal parts order (word_of point) is.legal))

pub objectives_are_margins : (parts : Parts) → SoundPlant parts → ObjectivesAreMargins parts
objectives_are_margins parts sound order box point is =
    objective-is_margin parts order (length box) (word_of point) sound (CanRun-legal parts order (word_of point) is.legal) (word-short box point is.there)
