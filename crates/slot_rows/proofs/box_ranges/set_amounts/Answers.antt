use Rattle.std.proofs.Common.{ℕ, length, subst, below_more, arith}
use Rattle.linear_form.specs.declared.column.Part.TheVariants.{A}
use Rattle.linear_form.specs.Columns.{IsColumn}
use Rattle.linear_form.specs.Listed.{column_of}
use Rattle.row_forms.specs.Columns.{extent_of}
use Rattle.slot_rows.specs.inside.Given.{IsGiven}
use Rattle.slot_rows.proofs.GivenLaws.{kept-none, kept-then}
use Rattle.slot_rows.proofs.box_ranges.set_amounts.Goals as goal

pub loop-crude-init : goal.loop-crude-init
loop-crude-init c = record {
  kept = kept-none c.args.plant.now c.args.bx.now c.args.ranges.now c.requires.extent;
  given = λ k under. absurd (omega arith);
}

pub loop-crude-preserved : goal.loop-crude-preserved
loop-crude-preserved c =
    let parts = c.args.plant.now in
    let box = c.args.bx.now in
    let slot = c.args.slot in
    let v = c.args.v in
    let new = c.set_column.new.ranges in
    let step = c.set_column.ensures.kept in
    record {
      kept = kept-then parts box c.args.ranges.now c.loop-crude.ranges new c.loop-crude.invariant.kept step;
      given = below_more (λ (k : ℕ). IsGiven parts box new (column_of slot v (A k))) c.loop-crude.crude
          (λ k under.
          let there : IsColumn (extent_of parts (length box)) (column_of slot v (A k)) =
          record {
            slot_there = (c.requires.some, c.requires.slot);
            part_there = (c.requires.op, omega (arith, c.loop-crude-test.true, c.crude_count-crude-end.ensures.value));
          } in
          step.kept (column_of slot v (A k)) there (c.loop-crude.invariant.given k under))
          (subst (IsGiven parts box new) c.column_of.ensures c.set_column.ensures.given);
    }
