use Rattle.std.proofs.Common.{◌≡◌, ℕ, ◌<◌, ◌^◌, List, length, sym, subst, arith}
use Rattle.leaf_value.specs.Blocked.{IsBlocked}
use Rattle.leaf_value.proofs.BlockedLaws.{prefix-short}
use Rattle.slot_box.specs.declared.slot.Slot.{Slot}
use Rattle.slot_forms.specs.Cases.{plain}
use Rattle.search_node.specs.Looks.{IsLook}
use Rattle.search_node.proofs.DeadLaws.{dead-look}
use Rattle.search_node.proofs.examining.examine_by.Goals as goal

pub returns-in-Some : goal.returns-in-Some
returns-in-Some c =
    let parts = c.args.plant.now in
    let task = c.args.task.now in
    let here : c.bx-bx.result.now ≡ task.box = c.bx-bx.ensures.value in
    let known : IsBlocked (plain parts (length c.bx-bx.result.now)) c.bx-bx.result.now c.in-Some.at = c.in-Some.ensures.some in
    let blocked : IsBlocked (plain parts c.args.n) task.box c.in-Some.at =
    subst (λ (n : ℕ). IsBlocked (plain parts n) task.box c.in-Some.at) c.requires.task.slots
    (subst (λ (box : List Slot). IsBlocked (plain parts (length box)) box c.in-Some.at) here known) in
    let most = c.bx-bx.ensures.shape.most_slots in
    let there = blocked.fixed.fixed in
    let fits : c.in-Some.at < 2 ^ 32 = omega (arith, there, prefix-short task.box, most) in
    subst (IsLook parts c.args.n task c.args.seen) (sym c.dead.ensures) (dead-look parts c.args.n task c.args.seen c.in-Some.at blocked fits)
