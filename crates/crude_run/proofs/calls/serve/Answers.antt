use Rattle.std.proofs.Common.{Err, ap}
use Rattle.crude_run.proofs.CallLaws.{command_called, refusal_called}
use Rattle.crude_run.proofs.calls.serve.Goals as goal

pub returns-in-Ok-clause-answered : goal.returns-in-Ok-clause-answered
returns-in-Ok-clause-answered g c = command_called _ c.in-Ok.command _ _ _ c.in-Ok.ensures.plain c.serve_command.ensures.answered

pub returns-in-Err-Words-clause-answered : goal.returns-in-Err-Words-clause-answered
returns-in-Err-Words-clause-answered g c =
    refusal_called _ _ _ _ (c.in-Err-Words.ensures.refused.0 (ap Err c.in-Err-Words.field-0-is)) c.refuse_words.ensures.answered
