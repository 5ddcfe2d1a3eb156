use Rattle.std.proofs.Common.{sym, ◌∙◌}
use Rattle.replay_core.proofs.StepLaws.{first_broken-accepted}
use Rattle.replay_core.proofs.running.Replay.check_legal.Goals as goal

pub returns-clause-whole : goal.returns-clause-whole
returns-clause-whole c = c.check_end.ensures
    ∙ sym (first_broken-accepted c.args.self.now.parts c.args.self.now.order c.args.self.now.steps c.steps.ensures.can_run)
