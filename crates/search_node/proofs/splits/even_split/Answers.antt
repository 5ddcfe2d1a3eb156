use Rattle.std.proofs.Common.{◌≡◌}
use Rattle.slot_box.specs.Boxes.{slot_at}
use Rattle.slot_box.specs.Slots.{live_of}
use Rattle.search_node.proofs.CutLaws.{good_half}
use Rattle.search_node.proofs.splits.even_split.Goals as goal

pub returns-in-Some-clause-lawful : goal.returns-in-Some-clause-lawful
returns-in-Some-clause-lawful c =
    let same : c.live.result ≡ live_of (slot_at c.args.bx.now c.in-Some.slot) = c.live.ensures.value in
    let choice = c.in-Some.ensures.found in
    (good_half c.args.bx.now c.in-Some.slot c.widest_choice.ensures.shape choice.from_one choice.there c.upper_half.result (rw (← same) c.upper_half.ensures.part)
    c.upper_half.ensures.some (rw (← same) c.upper_half.ensures.less) (rw (← same) c.upper_half.ensures.half)).lawful
