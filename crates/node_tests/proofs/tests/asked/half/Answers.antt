use Rattle.std.proofs.Common.{List, sym, subst}
use Rattle.plant_model.specs.Parts.{greatest_volume_of, horizon_of, op_count_of}
use Rattle.slot_box.specs.declared.slot.Slot.{Slot}
use Rattle.slot_box.specs.Boxes.{IsWithinRoot}
use Rattle.node_tests.proofs.tests.asked.half.Goals as goal
use Rattle.node_tests.proofs.tests.asked.half.Goals.{then-is_left, else-is_left}

pub returns : goal.returns
returns c =
    let parts = c.args.plant.now in
    let ops = op_count_of parts in
    let volume = greatest_volume_of parts in
    let horizon = horizon_of parts in
    let left = c.in-Ok.ensures.within.0 ops volume horizon c.requires in
    let right = c.in-Ok.ensures.within.1 ops volume horizon c.requires in
    elim c.if-is_left.branch [
      | then-is_left w ↦ subst (λ (box : List Slot). IsWithinRoot ops volume horizon box) (sym w.result-is) left
      | else-is_left w ↦ subst (λ (box : List Slot). IsWithinRoot ops volume horizon box) (sym w.result-is) right
    ]
