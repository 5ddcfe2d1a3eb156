use Rattle.std.proofs.Common.{length, sym}
use Rattle.std.proofs.lemmas.Bool.{ltb-false}
use Rattle.replay_core.proofs.OrderLaws.{last_start-at, last_start-none}
use Rattle.replay_core.proofs.latest.last_start.Goals as goal

pub returns-in-Some : goal.returns-in-Some
returns-in-Some c = sym (last_start-at c.args.steps.now c.in-Some.step.now c.in-Some.ensures.item.3.0 c.in-Some.ensures.item.1)

pub returns-in-None : goal.returns-in-None
returns-in-None c = sym (last_start-none c.args.steps.now (ltb-false 0 (length c.args.steps.now) (sym c.in-None.ensures.item.0)))
