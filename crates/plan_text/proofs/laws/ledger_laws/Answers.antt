use Rattle.plan_text.proofs.LedgerLaws.{tells_margin, tells_step, tells_end}
use Rattle.plan_text.proofs.laws.ledger_laws.Goals as goal

pub returns-clause-margin : goal.returns-clause-margin
returns-clause-margin c = tells_margin

pub returns-clause-steps : goal.returns-clause-steps
returns-clause-steps c = tells_step

pub returns-clause-ends : goal.returns-clause-ends
returns-clause-ends c = tells_end
