use Rattle.std.proofs.Common.{◌≡◌, ◌-◌, ◌^◌, min, take}
use Rattle.slot_box.specs.Boxes.{points_of}
use Rattle.slot_box.proofs.boxes.points_in.Given as goal

abbrev pub invariant-loop-slot : goal.invariant-loop-slot
invariant-loop-slot l = l.points ≡ min (points_of (take l.slot-index l.slots)) (2 ^ 128 - 1)
