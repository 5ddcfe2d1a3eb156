use Rattle.std.proofs.Common.{◌≡◌, ◌++◌, take, drop}
use Rattle.item_lists.specs.Faults.{first_of}
use Rattle.replay_core.specs.Legal.{step_faults_from}
use Rattle.replay_core.proofs.outcome.run.Given as goal

abbrev pub invariant-loop-t : goal.invariant-loop-t
invariant-loop-t l = record {
  ran : l.replay ≡ record l.fn.replay { steps = l.fn.replay.steps ++ take l.t-index l.plan };
  faults : first_of (step_faults_from l.fn.replay.parts l.fn.replay.order l.replay.steps (drop l.t-index l.plan))
      ≡ first_of (step_faults_from l.fn.replay.parts l.fn.replay.order l.fn.replay.steps l.plan);
}
