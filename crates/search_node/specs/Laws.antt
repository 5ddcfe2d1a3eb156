-- What holds of values over boxes, whatever is tried to find them.
use Rattle.std.specs.Prelude.{◌≡◌, ℕ, ◌≤◌, ℤ, ◌≤ℤ◌, ◌<ℤ◌, Bool, nat_lt, IsTrue, List, filter, length, Some, unsigned_abs}
use Rattle.limits.specs.declared.TheConstants.{MOST_OFFER, MOST_SLOTS}
use Rattle.plan_build.specs.Built.{IsPlanned}
use Rattle.plant_model.specs.declared.parts.Parts.{Parts}
use Rattle.replay_core.specs.declared.planned.Planned.{Planned}
use Rattle.slot_box.specs.declared.split.Split.{Split}
use Rattle.slot_box.specs.Splits.{IsLawfulSplit, left_of, right_of}
use Rattle.slot_box.specs.declared.slot.Slot.{Slot}
use Rattle.slot_box.specs.declared.term.Term.{Term}
use Rattle.slot_box.specs.Boxes.{IsBox, HasOnePoint, only_point}
use Rattle.slot_forms.specs.Forms.{point_value}
use Rattle.leaf_value.specs.Blocked.{IsBlocked}
use Rattle.leaf_value.specs.LeafValue.{AreBounding, AreLawfulTerms, are_contradictory, dual_value_of, multiplier_of}
use Rattle.leaf_value.specs.Settings.{Setting}
use Rattle.search_node.specs.Values.{entries_there, least_value}

-- an entry's row is taken at all
abbrev pub is_taken : Term → Bool
is_taken term = nat_lt 0 (multiplier_of term)

-- entries with the multiplier 0 may be left out: the others have the same dual value, and contradict each other where
-- all of them do
pub record ZerosMayGo (setting : Setting) (box : List Slot) (q : ℕ) (terms : List Term) : Type 0 where
  pub value : dual_value_of setting box q (filter is_taken terms) ≡ dual_value_of setting box q terms
  pub empty : are_contradictory setting box (filter is_taken terms) ≡ are_contradictory setting box terms

-- so it is with all entries
abbrev pub ZerosChangeNothing : Setting → Type 0
ZerosChangeNothing setting = (box : List Slot) (q : ℕ) (terms : List Term) → ZerosMayGo setting box q terms

-- entries whose dual value is below the least value that is told contradict each other
abbrev pub LowValuesContradict : Setting → Type 0
LowValuesContradict setting =
    (box : List Slot) (q : ℕ) (terms : List Term) → IsBox box → length box ≡ setting.case.slots → 1 ≤ q
    → dual_value_of setting box q terms <ℤ least_value → IsTrue (are_contradictory setting box terms)

-- no slots of the box are blocked
abbrev pub IsUnblocked : Setting → List Slot → Type 0
IsUnblocked setting box = (at : ℕ) → IsBlocked setting.case box at → ⊥

-- the value of a box's one point is no greater than the dual value of any lawful entries, where the box is not blocked
abbrev pub PointsAreBelowDuals : Setting → Type 0
PointsAreBelowDuals setting =
    (box : List Slot) (margin : ℤ) (q : ℕ) (terms : List Term) → IsBox box → length box ≡ setting.case.slots
    → HasOnePoint box → IsUnblocked setting box → point_value setting.case (only_point box) ≡ Some margin
    → AreBounding setting q terms → margin ≤ℤ dual_value_of setting box q terms

-- nor is it below the least value that is told
abbrev pub PointsAreTold : Setting → Type 0
PointsAreTold setting =
    (box : List Slot) (margin : ℤ) → IsBox box → HasOnePoint box
    → point_value setting.case (only_point box) ≡ Some margin → least_value ≤ℤ margin

-- what a plan of at most so many operations earns may be offered to other workers
abbrev pub PlansMayBeOffered : Parts → Type 0
PlansMayBeOffered parts =
    (n : ℕ) (planned : Planned) → n ≤ MOST_SLOTS → IsPlanned parts n planned → unsigned_abs planned.margin ≤ MOST_OFFER

-- of lawful entries each row is there
abbrev pub LawfulEntriesAreThere : Setting → Type 0
LawfulEntriesAreThere setting = (terms : List Term) → AreLawfulTerms setting terms → entries_there setting terms ≡ terms

-- neither part of a lawful split has a greater dual value by the same entries
abbrev pub PartsAreBelowTheWhole : Setting → Type 0
PartsAreBelowTheWhole setting =
    (box : List Slot) (split : Split) (q : ℕ) (terms : List Term) → IsBox box → length box ≡ setting.case.slots
    → IsLawfulSplit box split → 1 ≤ q
    → (dual_value_of setting (left_of box split) q terms ≤ℤ dual_value_of setting box q terms)
    × (dual_value_of setting (right_of box split) q terms ≤ℤ dual_value_of setting box q terms)
