use Rattle.std.proofs.Common.{ap, ◌∙◌}
use Rattle.slot_box.specs.Slots.{fixed_of}
use Rattle.slot_box.proofs.OnlyLaws.{fixed_runs}
use Rattle.slot_box.proofs.LiveLaws.{IsFixedTo-from_fixed_of, fixed_of-from_IsFixedTo}
use Rattle.slot_box.proofs.boxes.SlotBox.fixed_at.Goals as goal

pub returns-clause-some : goal.returns-clause-some
returns-clause-some c = λ op.
    let s = c.slot.result in
    rw c.fixed.ensures (rw (← c.slot.ensures.value) (IsFixedTo-from_fixed_of s op c.slot.ensures.shape, fixed_of-from_IsFixedTo s op))

pub returns-clause-runs : goal.returns-clause-runs
returns-clause-runs c =
    let at = c.slot.ensures.value in
    fixed_runs c.args.self.now c.args.i c.fixed.result c.requires.from_one c.requires.there (rw (← at) c.slot.ensures.shape)
    (c.fixed.ensures ∙ ap fixed_of at)
