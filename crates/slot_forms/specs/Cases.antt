-- What a search and a dossier are about: a plant, how many operations its plans may have, and what has begun already.
use Rattle.std.specs.Prelude.{◌≡◌, ◌↔◌, ℕ, ◌-◌, ◌^◌, ◌≤◌, ℤ, ◌≤ℤ◌, nat_lt, List, ◌++◌, map, filter, length, Option, Some, None}
use Rattle.limits.specs.declared.TheConstants.{MOST_SLOTS}
use Rattle.plant_model.specs.declared.parts.Parts.{Parts}
use Rattle.plant_model.specs.Parts.{op_count_of, greatest_volume_of, horizon_of}
use Rattle.replay_core.specs.declared.timed.Timed.{Timed}
use Rattle.replay_core.specs.Legal.{IsLegal}
use Rattle.replay_core.specs.Margin.{margin_of}
use Rattle.replay_core.specs.Claim.{IsPlanOf, IsBound, IsInfeasible}
use Rattle.slot_box.specs.declared.slot.Slot.{Slot}
use Rattle.slot_box.specs.Boxes.{IsBox, root_of}
use Rattle.slot_box.specs.Slots.{span}

-- what has begun when the rest is planned anew: operations that stay as they are, and the minute from which on others
-- may start
pub record Begun : Type 0 where
  pub fixed : List Timed
  pub from : ℕ

-- how many operations have begun
abbrev pub begun_count : Option Begun → ℕ
begun_count None = 0
begun_count (Some begun) = length begun.fixed

-- a plant, the number of slots, and what has begun; in the plain case nothing has. Planning anew at minute 0 with
-- nothing fixed is another case
pub record Case : Type 0 where
  pub parts : Parts
  pub slots : ℕ
  pub begun : Option Begun

-- the plain case
abbrev pub plain : Parts → ℕ → Case
plain parts n = record { parts = parts; slots = n; begun = None }

-- the operations of the plan that start before the minute are exactly those that have begun, in their order
abbrev pub GoesOnFrom : Option Begun → List Timed → Type 0
GoesOnFrom None plan = Unit {0}
GoesOnFrom (Some begun) plan = filter (λ (t : Timed). nat_lt t.start begun.from) plan ≡ begun.fixed

-- a plan of the case: legal, with at most as many operations as slots, and with those that have begun
pub record IsCasePlan (case : Case) (plan : List Timed) : Type 0 where
  pub legal : IsLegal case.parts plan
  pub short : length plan ≤ case.slots
  pub goes_on : GoesOnFrom case.begun plan

-- no plan of the case has a greater margin
abbrev pub IsCaseBound : Case → ℤ → Type 0
IsCaseBound case bound = (plan : List Timed) → IsCasePlan case plan → margin_of case.parts plan ≤ℤ bound

-- the case has no plan
abbrev pub IsCaseInfeasible : Case → Type 0
IsCaseInfeasible case = (plan : List Timed) → IsCasePlan case plan → ⊥

-- ---- root boxes

-- a slot that the operation alone can fill, as it is
abbrev pub fixed_slot : Timed → Slot
fixed_slot t =
    record { ops = 2 ^ t.op; volume = span t.volume t.volume; start = span t.start t.start; end = span t.end t.end }

-- so many slots, each of which any operation of the plant may fill, or none
abbrev pub whole_slots : Parts → ℕ → List Slot
whole_slots parts count = root_of count (op_count_of parts) (greatest_volume_of parts) (horizon_of parts)

-- the slots of those that have begun, and whole slots behind them
abbrev pub slots_from : Parts → ℕ → Option Begun → List Slot
slots_from parts count None = whole_slots parts count
slots_from parts count (Some begun) = map fixed_slot begun.fixed ++ whole_slots parts (count - length begun.fixed)

-- the box with the forms of all plans of a case
abbrev pub root_box : Case → List Slot
root_box case = slots_from case.parts case.slots case.begun

-- ---- laws of the plain case

-- its root box is a box, where it has some slots and not too many
abbrev pub PlainRootsAreBoxes : Parts → Type 0
PlainRootsAreBoxes parts = (n : ℕ) → 1 ≤ n → n ≤ MOST_SLOTS → IsBox (root_box (plain parts n))

-- what is claimed of the plain case is what is claimed of the plant and its plans of at most n operations
pub record SaysTheSame (parts : Parts) (n : ℕ) : Type 0 where
  pub plan : (plan : List Timed) → IsCasePlan (plain parts n) plan ↔ IsPlanOf parts n (margin_of parts plan) plan
  pub bound : (bound : ℤ) → IsCaseBound (plain parts n) bound ↔ IsBound parts n bound
  pub infeasible : IsCaseInfeasible (plain parts n) ↔ IsInfeasible parts n

-- for any number of slots
abbrev pub PlainCasesSayTheSame : Parts → Type 0
PlainCasesSayTheSame parts = (n : ℕ) → SaysTheSame parts n
