use Rattle.std.proofs.Common.{◌≡◌, length, List, ℕ, sym, subst, ◌∙◌}
use Rattle.replay_core.specs.Replayed.{Replayed}
use Rattle.replay_core.specs.State.{state_after}
use Rattle.replay_core.specs.inside.Levels.{HoldsWithin}
use Rattle.replay_core.proofs.StateLaws.{holds_within-accepted}
use Rattle.replay_core.proofs.running.Replay.state.Goals as goal

pub returns : goal.returns
returns c =
    let held = c.as_slice.ensures.value ∙ c.self.invariant.held in
    let holds = holds_within-accepted c.self.inside.plant.now c.self.inside.order c.self.inside.steps.items c.sound.ensures.plant c.self.invariant.can_run in
    record {
      value = subst (λ (r : Replayed). c.as_slice.result.now ≡ state_after r.parts r.steps) c.self.view_is held;
      holds = subst (λ (r : Replayed). HoldsWithin r.parts (length r.steps) c.as_slice.result.now) c.self.view_is
          (subst (λ (state : List (List ℕ)). HoldsWithin c.self.inside.plant.now (length c.self.inside.steps.items) state) (sym held) holds);
    }
