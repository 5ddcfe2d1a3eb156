use Rattle.std.proofs.Common.{ℕ, ◌+◌, ◌<◌}
use Rattle.slot_rows.specs.inside.Given.{KeepsGiven, IsSlotGiven}
use Rattle.slot_rows.proofs.box_ranges.set_slots.Given as goal

abbrev pub invariant-loop-k : goal.invariant-loop-k
invariant-loop-k l = record {
  kept : KeepsGiven l.plant l.bx l.initial.ranges l.ranges;
  given : (j : ℕ) → j < l.k → IsSlotGiven l.plant l.bx l.ranges (j + 1);
}
