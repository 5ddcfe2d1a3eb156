use Rattle.std.proofs.Common.{◌≡◌, ◌+◌, ◌-◌, ◌<◌, ◌≤◌, length, refl, arith, rules}
use Rattle.std.proofs.lemmas.List.{take_all}
use Rattle.std.proofs.lemmas.List.Elements.{All-more}
use Rattle.plant_model.specs.Parts.{greatest_volume_of, horizon_of, op_count_of}
use Rattle.slot_box.specs.Boxes.{IsSlotOfRoot, no_slot, slot_at}
use Rattle.branch_worker.proofs.testing.is_within_root.Goals as goal

pub loop-i-preserved : goal.loop-i-preserved
loop-i-preserved c =
    let parts = c.args.plant.now in
    let inside : c.loop-i.i < length c.args.bx.now = search rules in
    let one : c.loop-i.i + 1 - 1 ≡ c.loop-i.i = omega arith in
    let here : IsSlotOfRoot (op_count_of parts) (greatest_volume_of parts) (horizon_of parts) c.slot.result = search rules in
    let at : c.slot.result ≡ slot_at c.args.bx.now (c.loop-i.i + 1) = c.slot.ensures.value in
    All-more (IsSlotOfRoot (op_count_of parts) (greatest_volume_of parts) (horizon_of parts)) c.args.bx.now c.loop-i.i no_slot inside c.loop-i.invariant
    (rw (at, one) at here)

pub returns : goal.returns
returns c =
    let parts = c.args.plant.now in
    let past : length c.args.bx.now ≤ c.loop-i.i = search rules in
    let all = take_all c.loop-i.i c.args.bx.now past in
    ((λ _. rw all at c.loop-i.invariant), (λ _. refl))
