use Rattle.std.proofs.Common.{ℕ, length, refl, subst, below_more, arith}
use Rattle.linear_form.specs.Columns.{IsColumn}
use Rattle.linear_form.specs.Listed.{vessel_column}
use Rattle.row_forms.specs.Columns.{extent_of}
use Rattle.slot_rows.specs.inside.Given.{IsGiven}
use Rattle.slot_rows.proofs.GivenLaws.{kept-none, kept-then}
use Rattle.slot_rows.proofs.box_ranges.set_waits.Goals as goal

pub loop-p-init : goal.loop-p-init
loop-p-init c = record {
  kept = kept-none c.args.plant.now c.args.bx.now c.args.ranges.now c.requires.extent;
  given = λ k under. absurd (omega arith);
}

pub loop-p-preserved : goal.loop-p-preserved
loop-p-preserved c =
    let parts = c.args.plant.now in
    let box = c.args.bx.now in
    let new = c.set_column.new.ranges in
    let step = c.set_column.ensures.kept in
    record {
      kept = kept-then parts box c.args.ranges.now c.loop-p.ranges new c.loop-p.invariant.kept step;
      given = below_more (λ (k : ℕ). IsGiven parts box new (vessel_column k)) c.loop-p.p
          (λ k under.
          let there : IsColumn (extent_of parts (length box)) (vessel_column k) =
          record { slot_there = refl; part_there = omega (arith, c.loop-p-test.true, c.vessel_count-p-end.ensures.value) } in
          step.kept (vessel_column k) there (c.loop-p.invariant.given k under))
          (subst (IsGiven parts box new) c.column_of.ensures c.set_column.ensures.given);
    }
