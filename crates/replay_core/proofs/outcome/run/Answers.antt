use Rattle.std.proofs.Common.{◌≡◌, ℕ, ◌+◌, ◌<◌, ◌∷◌, [], ◌++◌, None, List, take, drop, get_or, length, ap, sym, ◌∙◌, arith}
use Rattle.std.proofs.lemmas.List.{get_or_default}
use Rattle.item_lists.specs.Faults.{first_of}
use Rattle.plant_model.specs.declared.parts.Parts.{Parts}
use Rattle.replay_core.specs.declared.timed.Timed.{Timed}
use Rattle.replay_core.specs.declared.order.Order.{Order}
use Rattle.replay_core.specs.Replayed.{Replayed}
use Rattle.replay_core.specs.Legal.{op_faults, step_faults_from}
use Rattle.replay_core.proofs.EndLaws.{step_faults-next, taken_more}
use Rattle.replay_core.proofs.outcome.run.Goals as goal

replayed : Parts → Order → List Timed → Replayed
replayed parts order steps = record { parts = parts; order = order; steps = steps }

no_operation : Timed
no_operation = record { op = 0; start = 0; end = 0; volume = 0 }

ran_more : (was now : Replayed) (plan : List Timed) (i : ℕ) (parts : Parts) (order : Order) (before : List Timed) → i < length plan →
    was ≡ replayed parts order (before ++ take i plan) →
    now ≡ replayed was.parts was.order (was.steps ++ get_or plan i no_operation ∷ []) → now ≡ replayed parts order (before ++ take (i + 1) plan)
unfolding replayed no_operation
ran_more was now plan i parts order before within ran step =
    step
    ∙ ap (λ (r : Replayed). replayed r.parts r.order (r.steps ++ get_or plan i no_operation ∷ [])) ran
    ∙ ap (replayed parts order)
    (taken_more before plan i (get_or plan i no_operation) within (get_or_default plan i no_operation (get_or plan i no_operation) within))

faults_more : (was now : Replayed) (plan : List Timed) (i : ℕ) (parts : Parts) (order : Order) (before : List Timed) → i < length plan → was.parts ≡ parts →
    was.order ≡ order →
    now ≡ replayed was.parts was.order (was.steps ++ get_or plan i no_operation ∷ []) →
    None ≡ first_of (op_faults was.parts was.order was.steps (get_or plan i no_operation) (length was.steps + 1)) →
    first_of (step_faults_from parts order was.steps (drop i plan)) ≡ first_of (step_faults_from parts order before plan) →
    first_of (step_faults_from parts order now.steps (drop (i + 1) plan)) ≡ first_of (step_faults_from parts order before plan)
unfolding replayed no_operation
faults_more was now plan i parts order before within same same_order step none so_far =
    let t = get_or plan i no_operation in
    let broken_not : first_of (op_faults parts order was.steps t (length was.steps + 1))
    ≡ None = ap (λ (xs : Parts). first_of (op_faults xs order was.steps t (length was.steps + 1))) (sym same)
    ∙ ap (λ (o : Order). first_of (op_faults was.parts o was.steps t (length was.steps + 1))) (sym same_order) ∙ sym none in
    ap (λ (r : Replayed). first_of (step_faults_from parts order r.steps (drop (i + 1) plan))) step
    ∙ sym (step_faults-next parts order was.steps plan i t within (get_or_default plan i no_operation t within) broken_not)
    ∙ so_far

pub loop-t-preserved : goal.loop-t-preserved
unfolding replayed no_operation
loop-t-preserved c =
    let within : c.loop-t.t-index < length c.args.plan.now = omega arith in
    record {
      ran = ran_more c.loop-t.replay c.step.new.self c.args.plan.now c.loop-t.t-index c.args.replay.now.parts c.args.replay.now.order c.args.replay.now.steps
          within c.loop-t.invariant.ran c.in_ok-step.ensures.ok;
      faults = faults_more c.loop-t.replay c.step.new.self c.args.plan.now c.loop-t.t-index c.args.replay.now.parts c.args.replay.now.order
          c.args.replay.now.steps within (ap (λ (r : Replayed). r.parts) c.loop-t.invariant.ran) (ap (λ (r : Replayed). r.order) c.loop-t.invariant.ran)
          c.in_ok-step.ensures.ok c.in_ok-step.ensures.broken c.loop-t.invariant.faults;
    }
