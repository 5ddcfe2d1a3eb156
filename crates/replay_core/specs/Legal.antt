-- Which rules a plan breaks, in their order, and which plans are legal.
use Rattle.std.specs.Prelude.{◌≡◌, ℕ, ◌+◌, ◌<◌, ◌≤◌, Bool, Option, None, List, [], ◌∷◌, ◌++◌, length, sum, All}
use Rattle.item_lists.specs.Faults.{first_of, unless, each_from}
use Rattle.plant_model.specs.declared.parts.Parts.{Parts}
use Rattle.plant_model.specs.declared.details.PlaceInfo.{PlaceInfo}
use Rattle.plant_model.specs.Parts.{places_of, op_count_of, op_of}
use Rattle.replay_core.specs.declared.timed.Timed.{Timed}
use Rattle.replay_core.specs.declared.order.Order.{Order}
use Rattle.replay_core.specs.declared.order.Order.TheVariants.{ByStart}
use Rattle.replay_core.specs.declared.broken.Broken.{Broken}
use Rattle.replay_core.specs.State.{state_after, draw_at}
use Rattle.replay_core.specs.Rules.{is_known, lasts, keeps_window, keeps_volume, meets_rate, keeps_order, waits_for_others, keeps_vessel_order, leaves_minimum, keeps_maximum, meets_limits, is_emptied, meets_demand, meets_charges}

-- a rule that is broken, and where
abbrev pub broken : ℕ → ℕ → Broken
broken rule at = record { rule = rule; at = at }

-- the rules on the operation alone that it breaks
unfoldable pub own_faults : Parts → Timed → ℕ → List Broken
own_faults parts t at =
    unless (is_known parts t) (broken 1 at)
    ++ unless (lasts t) (broken 2 at)
    ++ unless (keeps_window parts t) (broken 3 at)
    ++ unless (keeps_volume parts t) (broken 4 at)
    ++ unless (meets_rate parts t) (broken 5 at)

-- the rule on the order, where it breaks it
unfoldable pub order_faults : Parts → Order → List Timed → Timed → ℕ → List Broken
order_faults parts order before t at = unless (keeps_order parts order before t) (broken 6 at)

-- the rules on other operations, berths, places and crudes that it breaks where those others have run before it
unfoldable pub place_faults : Parts → List Timed → Timed → ℕ → List Broken
place_faults parts before t at =
    unless (waits_for_others parts before t) (broken 7 at)
    ++ unless (keeps_vessel_order parts before t) (broken 8 at)
    ++ unless (leaves_minimum parts (state_after parts before) t) (broken 9 at)
    ++ unless (keeps_maximum parts (state_after parts before) t) (broken 10 at)
    ++ unless (meets_limits parts (state_after parts before) t) (broken 11 at)

-- all that the operation, which is number `at` of its plan, breaks where those others have run before it
unfoldable pub op_faults : Parts → Order → List Timed → Timed → ℕ → List Broken
op_faults parts order before t at =
    own_faults parts t at ++ order_faults parts order before t at ++ place_faults parts before t at

-- what operations break one after the other, where those others have run before them
abbrev pub step_faults_from : Parts → Order → List Timed → List Timed → List Broken
step_faults_from parts order before [] = []
step_faults_from parts order before (t ∷ later) =
    op_faults parts order before t (length before + 1) ++ step_faults_from parts order (before ++ t ∷ []) later

-- what the operations of a plan break one after the other
unfoldable pub step_faults : Parts → Order → List Timed → List Broken
step_faults parts order plan = step_faults_from parts order [] plan

-- ---- what stands at the end, each rule place by place

-- the places at which a rule does not hold
abbrev pub faults_at_places : Parts → ℕ → (ℕ → PlaceInfo → Bool) → List Broken
faults_at_places parts rule holds = each_from (λ p (place : PlaceInfo). unless (holds p place) (broken rule p)) 0
    (places_of parts)

-- the vessels that are not empty
unfoldable pub vessel_faults : Parts → List Timed → List Broken
vessel_faults parts plan = faults_at_places parts 12 (is_emptied (state_after parts plan))

-- the charging tanks from which too little or too much was charged
unfoldable pub demand_faults : Parts → List Timed → List Broken
demand_faults parts plan = faults_at_places parts 13 (meets_demand parts plan)

-- the units that were charged too little, or too often or not often enough
unfoldable pub unit_faults : Parts → List Timed → List Broken
unit_faults parts plan = faults_at_places parts 14 (meets_charges parts plan)

-- all that stands at the end
unfoldable pub end_faults : Parts → List Timed → List Broken
end_faults parts plan = vessel_faults parts plan ++ demand_faults parts plan ++ unit_faults parts plan

-- ---- all rules

-- all rules that the operations break, in the order in which they are asked
unfoldable pub plan_faults : Parts → Order → List Timed → List Broken
plan_faults parts order plan = step_faults parts order plan ++ end_faults parts plan

-- the broken rule that they are refused for
unfoldable pub first_broken_in : Parts → Order → List Timed → Option Broken
first_broken_in parts order plan = first_of (plan_faults parts order plan)

-- no rule is broken
abbrev pub IsLegalIn : Parts → Order → List Timed → Type 0
IsLegalIn parts order plan = first_broken_in parts order plan ≡ None

-- the operations run one after the other without breaking a rule, whatever stands at the end
abbrev pub CanRun : Parts → Order → List Timed → Type 0
CanRun parts order steps = step_faults parts order steps ≡ []

-- ---- of a plan, whose order is that of the starts

-- the broken rule that a plan is refused for
abbrev pub first_broken : Parts → List Timed → Option Broken
first_broken parts plan = first_broken_in parts ByStart plan

-- a plan that breaks no rule
abbrev pub IsLegal : Parts → List Timed → Type 0
IsLegal parts plan = IsLegalIn parts ByStart plan

-- ---- laws, whatever order is asked for

-- the operations that legal ones begin with broke no rule when they ran
abbrev pub PrefixesCanRun : Parts → Type 0
PrefixesCanRun parts =
    (order : Order) (front back : List Timed) → IsLegalIn parts order (front ++ back) → CanRun parts order front

-- what a legal operation draws sums to its volume
abbrev pub DrawsAreVolumes : Parts → Type 0
DrawsAreVolumes parts =
    (order : Order) (before : List Timed) (t : Timed) (later : List Timed)
    → IsLegalIn parts order (before ++ t ∷ later) → sum (draw_at parts before t) ≡ t.volume

-- the plant has the operation, and it takes time, within its window, and moves a volume within its range
pub record IsInRange (parts : Parts) (t : Timed) : Type 0 where
  pub known : t.op < op_count_of parts
  pub lasts : t.start < t.end
  pub from_window : (op_of parts t.op).window.0 ≤ t.start
  pub to_window : t.end ≤ (op_of parts t.op).window.1
  pub least : (op_of parts t.op).volume.0 ≤ t.volume
  pub most : t.volume ≤ (op_of parts t.op).volume.1

-- of legal operations each keeps its window and its volume
abbrev pub StepsAreInRange : Parts → Type 0
StepsAreInRange parts = (order : Order) (plan : List Timed) → IsLegalIn parts order plan → All (IsInRange parts) plan
