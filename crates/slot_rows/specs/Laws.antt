-- That the rows on slots and operations hold.
use Rattle.std.specs.Prelude.{◌≡◌, ℕ, ◌-◌, List, drop, All, Some}
use Rattle.linear_form.specs.Points.{IsMet}
use Rattle.linear_form.specs.Rows.{RowForm}
use Rattle.normal_order.specs.NormalWords.{IsNormalWord}
use Rattle.overlap_graph.specs.Cliques.{IsClique}
use Rattle.plant_model.specs.declared.parts.Parts.{Parts}
use Rattle.replay_core.specs.declared.order.Order.{Order}
use Rattle.replay_core.specs.declared.timed.Timed.{Timed}
use Rattle.replay_core.specs.Legal.{IsLegalIn}
use Rattle.row_forms.specs.Numbers.{numbers_of}
use Rattle.slot_box.specs.declared.term.RowName.{RowName}
use Rattle.slot_rows.specs.SlotRows.{slot_row_of}

-- the row is of the family of normal order, and the word is normal from the row's slot on; or it is of another family
abbrev pub IsNormalWhereAsked : Parts → List Timed → RowName → Type 0
IsNormalWhereAsked parts word name = name.family ≡ 13 → IsNormalWord parts (drop (name.a - 1) word)

-- each row holds at the form of every word that breaks no rule, whatever order is asked for; a row of normal order where
-- the word is normal
abbrev pub SlotRowsHold : Parts → Type 0
SlotRowsHold parts =
    (order : Order) (word : List Timed) (cliques : List ℕ) (n : ℕ) (name : RowName) (row : RowForm) →
    IsLegalIn parts order word → All (IsClique parts) cliques → IsNormalWhereAsked parts word name →
    slot_row_of parts cliques n name ≡ Some row → IsMet (numbers_of parts word) row
