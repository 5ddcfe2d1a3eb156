use Rattle.plan_text.proofs.LedgerLaws.{known_op}
use Rattle.plan_text.proofs.ledger_text.run_step.Goals as goal

pub returns-clause-known : goal.returns-clause-known
returns-clause-known c =
    known_op c.args.plant.now c.args.replay.now.steps c.args.replay.now c.args.t c.requires.same c.in_ok-drawn.ensures.broken
