use Rattle.std.proofs.Common.{below_more, arith}
use Rattle.linear_form.specs.Listed.{column_of}
use Rattle.slot_rows.specs.inside.Given.{IsOperationGiven}
use Rattle.slot_rows.proofs.GivenLaws.{kept-none, kept-then}
use Rattle.slot_rows.proofs.box_ranges.set_operations.Goals as goal

pub loop-v-init : goal.loop-v-init
loop-v-init c = record {
  kept = kept-none c.args.plant.now c.args.bx.now c.args.ranges.now c.requires.extent;
  given = λ k under. absurd (omega arith);
}

pub loop-v-preserved : goal.loop-v-preserved
loop-v-preserved c =
    let parts = c.args.plant.now in
    let box = c.args.bx.now in
    let new = c.set_operation.new.ranges in
    let step = c.set_operation.ensures.kept in
    record {
      kept = kept-then parts box c.args.ranges.now c.loop-v.ranges new c.loop-v.invariant.kept step;
      given = below_more (IsOperationGiven parts box new c.args.slot) c.loop-v.v
          (λ k under part there. step.kept (column_of c.args.slot k part) there (c.loop-v.invariant.given k under part there))
          c.set_operation.ensures.given;
    }
