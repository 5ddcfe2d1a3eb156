use Rattle.std.proofs.Common.{◌≡◌, take}
use Rattle.replay_core.specs.State.{initial_state}
use Rattle.replay_core.proofs.state.first_state.Given as goal

abbrev pub invariant-loop-p : goal.invariant-loop-p
invariant-loop-p l = l.state.items ≡ take l.p (initial_state l.plant)
