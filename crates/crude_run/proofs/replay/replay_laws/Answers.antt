use Rattle.crude_run.proofs.ReplayLaws.{one_answer}
use Rattle.crude_run.proofs.replay.replay_laws.Goals as goal

pub returns : goal.returns
returns c = λ parts bytes. one_answer parts bytes (c.plan_text_laws.ensures bytes)
