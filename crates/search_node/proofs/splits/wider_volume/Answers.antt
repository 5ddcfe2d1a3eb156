use Rattle.std.proofs.Common.{◌≡◌}
use Rattle.slot_box.specs.Boxes.{slot_at}
use Rattle.search_node.specs.inside.Splitting.{HasOneVolume}
use Rattle.search_node.proofs.CutLaws.{follows_free, follows_wider, good_volume, idle_unless_found, runs_where_found, slot_of_box}
use Rattle.search_node.proofs.splits.wider_volume.Goals as goal

pub returns-then-is_none : goal.returns-then-is_none
returns-then-is_none c =
    let slot = slot_of_box c.args.bx.now c.args.slot c.requires.shape c.requires.from_one c.requires.there in
    let none = c.if-is_none.ensures in
    follows_free (HasOneVolume (slot_at c.args.bx.now c.args.slot)) c.args.bx.now c.args.best
    (λ runs. absurd (idle_unless_found (slot_at c.args.bx.now c.args.slot) c.fixed_at.result slot c.requires.one none c.fixed_at.ensures.some runs))

pub returns : goal.returns
returns c =
    let box = c.args.bx.now in
    let found = c.if-is_none.ensures in
    let some = runs_where_found (slot_at c.args.bx.now c.args.slot) c.fixed_at.result found c.fixed_at.ensures.some in
    let same : c.slot.result ≡ slot_at box c.args.slot = c.slot.ensures.value in
    follows_wider (HasOneVolume (slot_at box c.args.slot)) box c.args.best c.wider.result c.slot.result.volume.lo c.slot.result.volume.hi _
    c.wider.ensures.none c.wider.ensures.some
    (λ wide. good_volume box c.args.slot c.requires.shape c.requires.from_one c.requires.there some c.middle.result (rw (← same) c.middle.ensures) (rw (← same) wide))
    (λ one runs. rw (← same) one)
