-- Laws of operations that run one after the other: one more at the end, and the first of them alone.
use Rattle.std.proofs.Common.{◌≡◌, ◌+◌, List, [], ◌∷◌, ◌++◌, length, Some, refl, sym, ap, subst, ◌∙◌, append_assoc}
use Rattle.std.proofs.lemmas.List.{append-nil}
use Rattle.item_lists.specs.Faults.{first_of}
use Rattle.item_lists.proofs.FaultLaws.{first_of-front, nil_of_append, nil_of_none}
use Rattle.plant_model.specs.declared.parts.Parts.{Parts}
use Rattle.replay_core.specs.declared.timed.Timed.{Timed}
use Rattle.replay_core.specs.declared.order.Order.{Order}
use Rattle.replay_core.specs.declared.broken.Broken.{Broken}
use Rattle.replay_core.specs.Legal.{op_faults, step_faults_from, step_faults, end_faults, plan_faults, first_broken_in, IsLegalIn, CanRun}

pub step_faults_from-append : (parts : Parts) (order : Order) (before front back : List Timed) →
    step_faults_from parts order before (front ++ back) ≡ step_faults_from parts order before front ++ step_faults_from parts order (before ++ front) back
step_faults_from-append parts order before [] back = ap (λ (xs : List Timed). step_faults_from parts order xs back) (sym (append-nil before))
step_faults_from-append parts order before (t ∷ front) back =
    let faults = op_faults parts order before t (length before + 1) in
    ap (λ rest. faults ++ rest) (step_faults_from-append parts order (before ++ t ∷ []) front back)
    ∙ ap (λ (xs : List Timed). faults ++ (step_faults_from parts order (before ++ t ∷ []) front ++ step_faults_from parts order xs back))
    (append_assoc before (t ∷ []) front)
    ∙ sym (append_assoc faults (step_faults_from parts order (before ++ t ∷ []) front) (step_faults_from parts order (before ++ t ∷ front) back))

pub step_faults_push : (parts : Parts) (order : Order) (steps : List Timed) (t : Timed) → step_faults parts order (steps ++ t ∷ [])
    ≡ step_faults parts order steps ++ op_faults parts order steps t (length steps + 1)
unfolding step_faults
step_faults_push parts order steps t =
    step_faults_from-append parts order [] steps (t ∷ [])
    ∙ ap (λ rest. step_faults_from parts order [] steps ++ rest) (append-nil (op_faults parts order steps t (length steps + 1)))

-- one more operation that breaks no rule
pub CanRun_push : (parts : Parts) (order : Order) (steps : List Timed) (t : Timed) → CanRun parts order steps → op_faults parts order steps t (length steps + 1)
    ≡ [] → CanRun parts order (steps ++ t ∷ [])
CanRun_push parts order steps t accepted none = step_faults_push parts order steps t ∙ ap (λ front. front ++ op_faults parts order steps t (length steps + 1))
    accepted ∙ none

pub CanRun-nil : (parts : Parts) (order : Order) → CanRun parts order []
unfolding step_faults
CanRun-nil parts order = refl

-- the first operations of accepted ones are accepted, and each breaks no rule
pub CanRun-front : (parts : Parts) (order : Order) (front back : List Timed) → CanRun parts order (front ++ back) → CanRun parts order front
unfolding step_faults
CanRun-front parts order front back accepted =
    (nil_of_append (step_faults_from parts order [] front) (step_faults_from parts order front back) (sym (step_faults_from-append parts order [] front back)
    ∙ accepted)).0

pub op_faults-accepted : (parts : Parts) (order : Order) (before : List Timed) (t : Timed) (later : List Timed) → CanRun parts order (before ++ t ∷ later) →
    op_faults parts order before t (length before + 1) ≡ []
unfolding step_faults
op_faults-accepted parts order before t later accepted =
    let rest = (nil_of_append (step_faults_from parts order [] before) (step_faults_from parts order before (t ∷ later))
    (sym (step_faults_from-append parts order [] before (t ∷ later)) ∙ accepted)).1 in
    (nil_of_append (op_faults parts order before t (length before + 1)) (step_faults_from parts order (before ++ t ∷ []) later) rest).0

-- what holds of no operations, and of one more where it holds of those before, holds of all that are accepted
along_from : (parts : Parts) (order : Order) (P : List Timed → Type 0) →
    ((before : List Timed) (t : Timed) → CanRun parts order before → P before → op_faults parts order before t (length before + 1) ≡ [] → P (before ++ t ∷ []))
    →
    (before later : List Timed) → CanRun parts order before → P before → step_faults_from parts order before later ≡ [] → P (before ++ later)
along_from parts order P next before [] accepted here none = subst P (sym (append-nil before)) here
along_from parts order P next before (t ∷ later) accepted here none =
    let parted = nil_of_append (op_faults parts order before t (length before + 1)) (step_faults_from parts order (before ++ t ∷ []) later) none in
    subst P (append_assoc before (t ∷ []) later)
    (along_from parts order P next (before ++ t ∷ []) later (CanRun_push parts order before t accepted parted.0) (next before t accepted here parted.0)
    parted.1)

pub along_accepted : (parts : Parts) (order : Order) (P : List Timed → Type 0) → P [] →
    ((before : List Timed) (t : Timed) → CanRun parts order before → P before → op_faults parts order before t (length before + 1) ≡ [] → P (before ++ t ∷ []))
    →
    (steps : List Timed) → CanRun parts order steps → P steps
unfolding step_faults
along_accepted parts order P first next steps accepted = along_from parts order P next [] steps (CanRun-nil parts order) first accepted

-- a legal plan is accepted, and nothing stands at its end; and the other way round
pub CanRun-legal : (parts : Parts) (order : Order) (plan : List Timed) → IsLegalIn parts order plan → CanRun parts order plan
unfolding first_broken_in plan_faults
CanRun-legal parts order plan legal =
    (nil_of_append (step_faults parts order plan) (end_faults parts plan) (nil_of_none (step_faults parts order plan ++ end_faults parts plan) legal)).0

pub first_broken-accepted : (parts : Parts) (order : Order) (plan : List Timed) → CanRun parts order plan → first_broken_in parts order plan
    ≡ first_of (end_faults parts plan)
unfolding first_broken_in plan_faults
first_broken-accepted parts order plan accepted = ap (λ front. first_of (front ++ end_faults parts plan)) accepted

-- a plan is refused for the first rule that its operations break one after the other
pub first_broken_by_steps : (parts : Parts) (order : Order) (plan : List Timed) (fault : Broken) → Some fault ≡ first_of (step_faults_from parts order [] plan)
    → first_broken_in parts order plan ≡ Some fault
unfolding first_broken_in plan_faults step_faults
first_broken_by_steps parts order plan fault found = first_of-front (step_faults_from parts order [] plan) (end_faults parts plan) fault (sym found)
