use Rattle.std.proofs.Common.{◌≡◌, [], List, length, sym, ap, subst, ◌∙◌, arith}
use Rattle.replay_core.specs.declared.timed.Timed.{Timed}
use Rattle.replay_core.specs.State.{state_after}
use Rattle.replay_core.specs.inside.Tally.{AreTallies}
use Rattle.replay_core.specs.inside.Latest.{start_of, end_of, AreLatest}
use Rattle.replay_core.specs.Legal.{CanRun}
use Rattle.replay_core.specs.Margin.{earned_of}
use Rattle.replay_core.proofs.StepLaws.{CanRun-nil}
use Rattle.replay_core.proofs.running.Replay.in_order.Goals as goal

pub invariant_of-result : goal.invariant_of-result
unfolding state_after earned_of
invariant_of-result c =
    let parts = c.args.plant.now in
    let none : c.in_ok-with_capacity.field-0.items ≡ [] = c.in_ok-with_capacity.ensures.items in
    let room = c.in_ok-with_capacity.ensures.capacity in
    record {
      can_run = subst (CanRun parts c.args.order) (sym none) (CanRun-nil parts c.args.order);
      few = (let count = ap length none in omega arith);
      room = room;
      held = c.in_ok-first_state.ensures ∙ sym (ap (state_after parts) none);
      tallies = subst (λ (steps : List Timed). AreTallies parts steps c.in_ok-first_tallies.field-0.items) (sym none) c.in_ok-first_tallies.ensures;
      starts = subst (λ (steps : List Timed). AreLatest start_of parts steps c.in_ok-no_minutes.field-0.items) (sym none) (c.in_ok-no_minutes.ensures start_of);
      ends = subst (λ (steps : List Timed). AreLatest end_of parts steps c.in_ok-no_minutes-2.field-0.items) (sym none) (c.in_ok-no_minutes-2.ensures end_of);
      margins = c.in_ok-crude_margins.ensures;
      earned = sym (ap (earned_of parts) none);
    }
