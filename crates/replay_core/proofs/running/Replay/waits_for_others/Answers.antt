use Rattle.std.proofs.Common.{◌↔◌, ◌≡◌, IsTrue, subst, ◌∙◌}
use Rattle.plant_model.specs.declared.parts.Parts.{Parts}
use Rattle.replay_core.specs.declared.latest.Relation.TheVariants.{AtOnce}
use Rattle.replay_core.specs.inside.Latest.{end_of, NoneIsLater}
use Rattle.replay_core.specs.Rules.{waits_for_others}
use Rattle.replay_core.proofs.OrderLaws.{none_later_is}
use Rattle.replay_core.proofs.running.Replay.waits_for_others.Goals as goal

pub returns : goal.returns
unfolding waits_for_others
returns c =
    let parts = c.args.self.now.parts in
    let t = c.args.t in
    none_later_is parts c.args.self.now.order c.args.self.now.steps end_of AtOnce t.op t.start c.ends.result.now c.none_is_later.result c.steps.ensures.can_run
    c.ends.ensures
    (subst (λ (p : Parts). IsTrue c.none_is_later.result ↔ NoneIsLater p AtOnce t.op c.ends.result.now t.start) c.plant.ensures c.none_is_later.ensures)
