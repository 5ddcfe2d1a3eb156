use Rattle.crude_run.proofs.CompleteLaws.{IsComplete-from}
use Rattle.crude_run.proofs.calls.run.Goals as goal

pub returns-clause-complete : goal.returns-clause-complete
returns-clause-complete g c =
    IsComplete-from c.line_laws.ensures _ _ _ _ c.serve.ensures.answered
