use Rattle.search_core.proofs.RunLaws.{runs-are-good}
use Rattle.search_core.proofs.laws.core_laws.Goals as goal

pub returns : goal.returns
returns c = runs-are-good
