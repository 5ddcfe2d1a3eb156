use Rattle.std.proofs.Common.{ℕ, ◌<◌}
use Rattle.slot_rows.specs.inside.Given.{KeepsGiven, IsOperationGiven}
use Rattle.slot_rows.proofs.box_ranges.set_operations.Given as goal

abbrev pub invariant-loop-v : goal.invariant-loop-v
invariant-loop-v l = record {
  kept : KeepsGiven l.plant l.bx l.initial.ranges l.ranges;
  given : (k : ℕ) → k < l.v → IsOperationGiven l.plant l.bx l.ranges l.slot k;
}
