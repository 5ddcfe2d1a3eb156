use Rattle.work_chains.proofs.SettledLaw.{chains-settle}
use Rattle.work_chains.proofs.settled_law.Goals as goal

pub returns : goal.returns
returns c = chains-settle
