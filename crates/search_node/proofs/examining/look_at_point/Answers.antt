use Rattle.std.proofs.Common.{ℕ, ◌≤◌, ℤ, Option, length, sym, subst}
use Rattle.limits.specs.declared.TheConstants.{MOST_MULTIPLIER}
use Rattle.slot_box.specs.declared.node.Leaf.TheVariants.{Point}
use Rattle.slot_box.specs.Boxes.{HasOnePoint}
use Rattle.slot_box.specs.Tasks.{IsTask}
use Rattle.search_node.specs.declared.looked.Examined.TheVariants.{Closed}
use Rattle.search_node.specs.Looks.{IsLook}
use Rattle.search_node.proofs.PointLaws.{point-look}
use Rattle.search_node.proofs.examining.look_at_point.Goals as goal

pub returns : goal.returns
returns c = λ seen.
    let parts = c.args.plant.now in
    let task = c.args.task.now in
    let found = c.in_ok-found.found in
    let called = c.in_ok-found.ensures in
    let q = c.q-q.ensures in
    let whole : IsTask task = record { box = c.bx.ensures.shape; some_q = subst (λ (q : ℕ). 1 ≤ q) q.value q.some; most_q = subst (λ (q : ℕ). q ≤ MOST_MULTIPLIER) q.value q.most; warm = c.warm-warm.ensures.limits } in
    let here = c.bx.ensures.value in
    let again = c.bx-2.ensures.value in
    let one : HasOnePoint task.box = rw here at (c.is_point-one.ensures.one.0 (c.is_point-one.ensures.number.1 (rw here c.requires.one))) in
    let look = point-look parts task whole one c.requires.unblocked (c.value_laws.ensures.points (length task.box)) (c.value_laws.ensures.told (length task.box))
    found (rw again at called.value) (rw again at called.point) (rw again at called.plan) seen in
    subst (λ (value : Option ℤ). IsLook parts (length task.box) task seen (record { what = Closed Point value; found = found })) (sym c.earned.ensures) look
