use Rattle.std.proofs.Common.{ℕ, ◌+◌, below_more, arith}
use Rattle.linear_form.specs.Listed.{column_of}
use Rattle.slot_rows.specs.inside.Given.{IsSlotGiven}
use Rattle.slot_rows.proofs.GivenLaws.{kept-none, kept-then}
use Rattle.slot_rows.proofs.box_ranges.set_slots.Goals as goal

pub loop-k-init : goal.loop-k-init
loop-k-init c = record {
  kept = kept-none c.args.plant.now c.args.bx.now c.args.ranges.now c.requires.extent;
  given = λ k under. absurd (omega arith);
}

pub loop-k-preserved : goal.loop-k-preserved
loop-k-preserved c =
    let parts = c.args.plant.now in
    let box = c.args.bx.now in
    let new = c.set_slot.new.ranges in
    let step = c.set_slot.ensures.kept in
    record {
      kept = kept-then parts box c.args.ranges.now c.loop-k.ranges new c.loop-k.invariant.kept step;
      given = below_more (λ (j : ℕ). IsSlotGiven parts box new (j + 1)) c.loop-k.k
          (λ j under entry part there. step.kept (column_of (j + 1) entry part) there (c.loop-k.invariant.given j under entry part there))
          c.set_slot.ensures.given;
    }
