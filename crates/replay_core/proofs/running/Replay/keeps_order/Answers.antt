use Rattle.std.proofs.Common.{◌↔◌, ◌≡◌, ℕ, IsTrue, leb, subst, sym, ap, ◌∙◌}
use Rattle.plant_model.specs.declared.parts.Parts.{Parts}
use Rattle.replay_core.specs.declared.order.Order.{Order}
use Rattle.replay_core.specs.declared.order.Order.TheVariants.{ByStart, BySlot}
use Rattle.replay_core.specs.declared.latest.Relation.TheVariants.{Ordered}
use Rattle.replay_core.specs.inside.Latest.{start_of, NoneIsLater}
use Rattle.replay_core.specs.Rules.{last_start, keeps_order, starts_in_order, starts_after_ordered}
use Rattle.replay_core.proofs.OrderLaws.{none_later_is}
use Rattle.replay_core.proofs.running.Replay.keeps_order.Goals as goal

pub returns-in-ByStart : goal.returns-in-ByStart
unfolding starts_in_order
returns-in-ByStart c =
    let now = c.args.self.now in
    let t = c.args.t in
    let order : now.order ≡ ByStart = sym c.order.ensures ∙ c.in-ByStart.is in
    ap (λ (n : ℕ). leb n t.start) (c.last_start.ensures ∙ ap last_start c.steps-steps.ensures.value)
    ∙ sym (ap (λ (o : Order). keeps_order now.parts o now.steps t) order)

pub returns-in-BySlot : goal.returns-in-BySlot
unfolding starts_after_ordered
returns-in-BySlot c =
    let now = c.args.self.now in
    let t = c.args.t in
    let order : now.order ≡ BySlot = sym c.order.ensures ∙ c.in-BySlot.is in
    none_later_is now.parts now.order now.steps start_of Ordered t.op t.start c.starts.result.now c.none_is_later.result c.steps-steps.ensures.can_run
    c.starts.ensures
    (subst (λ (p : Parts). IsTrue c.none_is_later.result ↔ NoneIsLater p Ordered t.op c.starts.result.now t.start) c.plant.ensures c.none_is_later.ensures)
    ∙ sym (ap (λ (o : Order). keeps_order now.parts o now.steps t) order)
