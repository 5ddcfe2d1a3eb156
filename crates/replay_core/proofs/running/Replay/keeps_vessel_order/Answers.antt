use Rattle.std.proofs.Common.{◌↔◌, ◌≡◌, IsTrue, subst, ◌∙◌}
use Rattle.plant_model.specs.declared.parts.Parts.{Parts}
use Rattle.replay_core.specs.declared.latest.Relation.TheVariants.{LaterVessel}
use Rattle.replay_core.specs.inside.Latest.{end_of, NoneIsLater}
use Rattle.replay_core.specs.Rules.{keeps_vessel_order, unloads_later_vessel}
use Rattle.replay_core.proofs.OrderLaws.{all_last, none_ended, none_later_is}
use Rattle.replay_core.proofs.running.Replay.keeps_vessel_order.Goals as goal

pub returns : goal.returns
unfolding keeps_vessel_order
returns c =
    let parts = c.args.self.now.parts in
    let order = c.args.self.now.order in
    let steps = c.args.self.now.steps in
    let t = c.args.t in
    none_later_is parts order steps end_of LaterVessel t.op 0 c.ends.result.now c.none_is_later.result c.steps.ensures.can_run c.ends.ensures
    (subst (λ (p : Parts). IsTrue c.none_is_later.result ↔ NoneIsLater p LaterVessel t.op c.ends.result.now 0) c.plant.ensures c.none_is_later.ensures)
    ∙ none_ended (λ v. unloads_later_vessel parts v t.op) steps (all_last parts order steps c.steps.ensures.can_run)
