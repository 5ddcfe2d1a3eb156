use Rattle.work_chains.proofs.ShareLaws.{shares-settle}
use Rattle.work_chains.proofs.shares_law.Goals as goal

pub returns : goal.returns
returns c = shares-settle
