use Rattle.std.proofs.Common.{◌≡◌}
use Rattle.item_lists.specs.Faults.{first_of}
use Rattle.replay_core.specs.Legal.{faults_at_places}
use Rattle.replay_core.specs.inside.EndRules.{number_of, holds_at}
use Rattle.replay_core.proofs.EndLaws.{rest_faults, faults_of}
use Rattle.replay_core.proofs.running.Replay.check_each.Given as goal

abbrev pub invariant-loop-p : goal.invariant-loop-p
invariant-loop-p l = first_of (rest_faults (faults_of l.self.parts l.self.steps l.rule) l.self.parts l.p)
    ≡ first_of (faults_at_places l.self.parts (number_of l.rule) (holds_at l.self.parts l.self.steps l.rule))
