use Rattle.std.proofs.Common.{ℕ, ◌<◌}
use Rattle.linear_form.specs.declared.column.Part.TheVariants.{A}
use Rattle.linear_form.specs.Listed.{column_of}
use Rattle.slot_rows.specs.inside.Given.{IsGiven, KeepsGiven}
use Rattle.slot_rows.proofs.box_ranges.set_amounts.Given as goal

abbrev pub invariant-loop-crude : goal.invariant-loop-crude
invariant-loop-crude l = record {
  kept : KeepsGiven l.plant l.bx l.initial.ranges l.ranges;
  given : (k : ℕ) → k < l.crude → IsGiven l.plant l.bx l.ranges (column_of l.slot l.v (A k));
}
