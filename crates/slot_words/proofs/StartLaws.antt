-- A word that keeps the order of slots, once it is sorted by starts, is a plan.
use Rattle.std.proofs.Common.{◌≡◌, ℕ, ◌+◌, ◌≤◌, Bool, true, false, not, ◌&&◌, ◌||◌, List, [], ◌∷◌, ◌++◌, length, All, refl, sym, ◌∙◌, arith}
use Rattle.std.specs.Prelude.{nat_le}
use Rattle.std.specs.List.{list_all}
use Rattle.std.proofs.lemmas.Bool.{le-leb}
use Rattle.std.proofs.lemmas.List.Elements.{All-head, All-tail, All-nil, All-push}
use Rattle.item_lists.proofs.FaultLaws.{nil_of_append, holds_of_nil}
use Rattle.plant_model.specs.declared.parts.Parts.{Parts}
use Rattle.plant_model.specs.Relations.{ordered_of}
use Rattle.replay_core.specs.declared.timed.Timed.{Timed}
use Rattle.replay_core.specs.declared.order.Order.TheVariants.{ByStart, BySlot}
use Rattle.replay_core.specs.Rules.{last_start, starts_in_order, starts_after_ordered}
use Rattle.replay_core.specs.Legal.{broken, own_faults, order_faults, place_faults, op_faults, step_faults_from, step_faults, IsLegalIn, IsLegal, CanRun}
use Rattle.replay_core.proofs.RuleLaws.{rules_kept}
use Rattle.replay_core.proofs.StepLaws.{CanRun-legal, first_broken-accepted}
use Rattle.replay_core.proofs.OrderLaws.{last_start_push, starts_in_order-true, starts_in_order-from}

-- ---- a plan keeps the order of slots

either : (b : Bool) {c : Bool} → c ≡ true → ((b || true) && c) ≡ true
either true rest = rest
either false rest = rest

after-all : (parts : Parts) (before : List Timed) (t : Timed) → All (λ (s : Timed). s.start ≤ t.start) before →
    list_all (λ (s : Timed). not (ordered_of parts s.op t.op) || nat_le s.start t.start) before ≡ true
after-all parts [] t each = refl
after-all parts (s ∷ before) t each =
    let first = All-head (λ (u : Timed). u.start ≤ t.start) s before each in
    let rest = after-all parts before t (All-tail (λ (u : Timed). u.start ≤ t.start) s before each) in
    rw (le-leb s.start t.start first) (either (not (ordered_of parts s.op t.op)) rest)

after-ordered : (parts : Parts) (before : List Timed) (t : Timed) → All (λ (s : Timed). s.start ≤ t.start) before → starts_after_ordered parts before t ≡ true
unfolding starts_after_ordered
after-ordered parts before t each = after-all parts before t each

slot-faults : (parts : Parts) (before : List Timed) (t : Timed) (at : ℕ) → own_faults parts t at ≡ [] → starts_after_ordered parts before t ≡ true →
    place_faults parts before t at ≡ [] → op_faults parts BySlot before t at ≡ []
unfolding op_faults order_faults
slot-faults parts before t at own order places = rw (own, order, places) refl

pub start-order : (parts : Parts) (before : List Timed) (t : Timed) (at : ℕ) → order_faults parts ByStart before t at ≡ [] → last_start before ≤ t.start
unfolding order_faults
start-order parts before t at none = starts_in_order-true before t (holds_of_nil (starts_in_order before t) (broken 6 at) none)

slot-from : (parts : Parts) (before steps : List Timed) → All (λ (s : Timed). s.start ≤ last_start before) before →
    step_faults_from parts ByStart before steps ≡ [] → step_faults_from parts BySlot before steps ≡ []
slot-from parts before [] each none = refl
slot-from parts before (t ∷ later) each none =
    let at = length before + 1 in
    let parted = nil_of_append (op_faults parts ByStart before t at) (step_faults_from parts ByStart (before ++ t ∷ []) later) none in
    let kept = rules_kept parts ByStart before t at parted.0 in
    let order = start-order parts before t at kept.in_order in
    let all : All (λ (s : Timed). s.start ≤ t.start) before = λ k d within. (let one = each k d within in omega arith) in
    let here = slot-faults parts before t at kept.own (after-ordered parts before t all) kept.places in
    let next : All (λ (s : Timed). s.start ≤ last_start (before ++ t ∷ [])) (before ++ t ∷ []) =
    rw (last_start_push before t) (All-push (λ (s : Timed). s.start ≤ t.start) before t all (omega arith)) in
    rw here (slot-from parts (before ++ t ∷ []) later next parted.1)

pub runs_by_slot : (parts : Parts) (plan : List Timed) → CanRun parts ByStart plan → CanRun parts BySlot plan
unfolding step_faults
runs_by_slot parts plan runs = slot-from parts [] plan (All-nil (λ (s : Timed). s.start ≤ last_start [])) runs

pub plan_is_slot_legal : (parts : Parts) (plan : List Timed) → IsLegal parts plan → IsLegalIn parts BySlot plan
plan_is_slot_legal parts plan legal =
    let runs = CanRun-legal parts ByStart plan legal in
    first_broken-accepted parts BySlot plan (runs_by_slot parts plan runs) ∙ sym (first_broken-accepted parts ByStart plan runs) ∙ legal

-- ---- and a word that keeps the order of slots is a plan where its starts rise

start-alone : (parts : Parts) (before : List Timed) (t : Timed) (at : ℕ) → op_faults parts BySlot before t at ≡ [] → last_start before ≤ t.start →
    op_faults parts ByStart before t at ≡ []
unfolding op_faults order_faults
start-alone parts before t at none order =
    let kept = rules_kept parts BySlot before t at none in
    rw (kept.own, starts_in_order-from before t order, kept.places) refl

pub start-faults : (parts : Parts) (before : List Timed) (t : Timed) (at : ℕ) → op_faults parts BySlot before t at ≡ [] → last_start before ≤ t.start →
    op_faults parts ByStart before t at ≡ []
start-faults parts before t at none order = start-alone parts before t at none order
