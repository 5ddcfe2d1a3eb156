use Rattle.std.proofs.Common.{◌≤◌, length, ap, subst, ◌∙◌}
use Rattle.limits.specs.declared.TheConstants.{MOST_STEPS}
use Rattle.replay_core.specs.Replayed.{Replayed}
use Rattle.replay_core.specs.Legal.{CanRun}
use Rattle.replay_core.proofs.running.Replay.steps.Goals as goal

pub returns : goal.returns
returns c = record {
  value = c.as_slice.ensures.value ∙ ap (λ (r : Replayed). r.steps) c.self.view_is;
  few = subst (λ (r : Replayed). length r.steps ≤ MOST_STEPS) c.self.view_is c.self.invariant.few;
  can_run = subst (λ (r : Replayed). CanRun r.parts r.order r.steps) c.self.view_is c.self.invariant.can_run;
}
