use Rattle.std.proofs.Common.{◌-◌, ◌*◌, ◌^◌, min, sym, ap, ap₂, ◌∙◌}
use Rattle.slot_box.proofs.PointLaws.{points_of-more, min-mul-min}
use Rattle.slot_box.proofs.boxes.points_in.Goals as goal

pub loop-slot-preserved : goal.loop-slot-preserved
loop-slot-preserved c =
    c.saturating_mul-points.ensures
    ∙ ap₂ (λ points ways. min (points * ways) (2 ^ 128 - 1)) c.loop-slot.invariant c.ways.ensures.value
    ∙ min-mul-min _ _ _
    ∙ ap (λ points. min points (2 ^ 128 - 1)) (sym (points_of-more c.args.slots.now c.loop-slot.slot-index _ c.loop-slot-test.true))
