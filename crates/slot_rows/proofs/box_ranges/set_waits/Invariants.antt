use Rattle.std.proofs.Common.{ℕ, ◌<◌}
use Rattle.linear_form.specs.Listed.{vessel_column}
use Rattle.slot_rows.specs.inside.Given.{IsGiven, KeepsGiven}
use Rattle.slot_rows.proofs.box_ranges.set_waits.Given as goal

abbrev pub invariant-loop-p : goal.invariant-loop-p
invariant-loop-p l = record {
  kept : KeepsGiven l.plant l.bx l.initial.ranges l.ranges;
  given : (k : ℕ) → k < l.p → IsGiven l.plant l.bx l.ranges (vessel_column k);
}
