use Rattle.std.proofs.Common.{sym, subst}
use Rattle.search_core.specs.Good.{IsGood}
use Rattle.search_core.proofs.RunLaws.{first-good, spent-all, settled-of}
use Rattle.search_core.proofs.state.CoreState.new.Goals as goal

pub invariant_of-result : goal.invariant_of-result
invariant_of-result c = subst IsGood (sym c.in_ok-new.ensures) (first-good _ _ c.requires.some_workers c.requires.most_workers c.requires.budget)

pub returns-clause-good : goal.returns-clause-good
returns-clause-good c = subst IsGood (sym c.in_ok-new.ensures) (first-good _ _ c.requires.some_workers c.requires.most_workers c.requires.budget)

pub returns-clause-given : goal.returns-clause-given
returns-clause-given c = spent-all _ (returns-clause-good c)

pub returns-clause-settled : goal.returns-clause-settled
returns-clause-settled c = settled-of _ (returns-clause-good c)
