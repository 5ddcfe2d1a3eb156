use Rattle.std.proofs.Common.{refl}
use Rattle.std.proofs.lemmas.List.{length-replicate}
use Rattle.replay_core.specs.declared.order.Order.TheVariants.{ByStart}
use Rattle.leaf_value.specs.Settings.{plain_setting}
use Rattle.crude_run.proofs.SolutionLaws.{IsSolution-from, steps_known}
use Rattle.crude_run.proofs.conclude.conclude.Goals as goal

pub head_of-requires : goal.head_of-requires
head_of-requires c =
    steps_known c.args.plant.now c.args.ask.slots c.args.found.best (c.legal_plan_laws.ensures.ranges c.args.plant.now ByStart) c.requires.most_slots
    c.requires.found.plan

pub returns : goal.returns
returns c =
    rw c.new.ensures
    (IsSolution-from c.args.plant.now c.args.ask.slots c.args.ask.nodes c.args.ask.workers c.requires.some_slots c.requires.most_slots c.requires.most_nodes c.accepted_claim_laws.ensures
    (c.leaf_laws.ensures.bounds (plain_setting c.args.plant.now c.args.ask.slots) refl
    (c.form_laws.ensures.boxes c.args.ask.slots c.requires.some_slots c.requires.most_slots) (length-replicate c.args.ask.slots _))
    c.args.found.tickets c.args.found.tree c.args.found.best c.args.found.bound c.in_ok-head.head c.requires.found c.in_ok-head.ensures.claim
    c.in_ok-head.ensures.margin c.head_of.ensures.bound)
