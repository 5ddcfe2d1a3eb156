use Rattle.std.proofs.Common.{sym, subst, ◌∙◌}
use Rattle.search_core.specs.Laws.{SettlesWhenIdle}
use Rattle.search_core.proofs.RunLaws.{good-either, spent-all, settled-of}
use Rattle.search_core.proofs.state.CoreState.step.Goals as goal

pub invariant_of-self : goal.invariant_of-self
invariant_of-self c =
    good-either c.apply.result c.self.inside.machine _ c.args.event c.self.invariant
    (sym c.is_enabled.ensures ∙ c.if-not-is_enabled.false) c.apply.ensures.ok c.apply.ensures.err

pub returns-clause-good : goal.returns-clause-good
returns-clause-good c =
    good-either c.apply.result c.self.inside.machine _ c.args.event c.self.invariant
    (sym c.is_enabled.ensures ∙ c.if-not-is_enabled.false) c.apply.ensures.ok c.apply.ensures.err

pub returns-clause-given : goal.returns-clause-given
returns-clause-given c = spent-all _ (returns-clause-good c)

pub returns-clause-settled : goal.returns-clause-settled
returns-clause-settled c = settled-of _ (returns-clause-good c)

pub returns-then-not-is_enabled-clause-settled : goal.returns-then-not-is_enabled-clause-settled
returns-then-not-is_enabled-clause-settled c = subst SettlesWhenIdle c.self.view_is (settled-of _ c.self.invariant)
