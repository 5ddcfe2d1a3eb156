use Rattle.std.proofs.Common.{take}
use Rattle.plant_model.specs.Parts.{greatest_volume_of, horizon_of, op_count_of}
use Rattle.slot_box.specs.Boxes.{IsWithinRoot}
use Rattle.branch_worker.proofs.testing.is_within_root.Given as goal

abbrev pub invariant-loop-i : goal.invariant-loop-i
invariant-loop-i l =
    IsWithinRoot (op_count_of l.plant) (greatest_volume_of l.plant) (horizon_of l.plant) (take l.i l.bx)
