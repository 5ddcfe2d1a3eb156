use Rattle.std.proofs.Common.{◌≡◌}
use Rattle.slot_box.specs.Boxes.{slot_at}
use Rattle.search_node.specs.inside.Splitting.{HasOneEnd, HasOneStart, HasOneTime}
use Rattle.search_node.proofs.CutLaws.{follows_free, follows_then, follows_wider, good_start, good_end, idle_unless_found, runs_where_found, slot_of_box}
use Rattle.search_node.proofs.splits.wider_minutes.Goals as goal

pub returns-then-is_none : goal.returns-then-is_none
returns-then-is_none c =
    let slot = slot_of_box c.args.bx.now c.args.slot c.requires.shape c.requires.from_one c.requires.there in
    let none = c.if-is_none.ensures in
    let idle = idle_unless_found (slot_at c.args.bx.now c.args.slot) c.fixed_at.result slot c.requires.one none c.fixed_at.ensures.some in
    follows_free (HasOneTime (slot_at c.args.bx.now c.args.slot)) c.args.bx.now c.args.best
    (record { start = λ runs. absurd (idle runs); end = λ runs. absurd (idle runs) })

pub returns : goal.returns
returns c =
    let box = c.args.bx.now in
    let found = c.if-is_none.ensures in
    let some = runs_where_found (slot_at c.args.bx.now c.args.slot) c.fixed_at.result found c.fixed_at.ensures.some in
    let same : c.slot.result ≡ slot_at box c.args.slot = c.slot.ensures.value in
    let start = follows_wider (HasOneStart (slot_at box c.args.slot)) box c.args.best c.wider-first.result c.slot.result.start.lo c.slot.result.start.hi _
    c.wider-first.ensures.none c.wider-first.ensures.some
    (λ wide. good_start box c.args.slot c.requires.shape c.requires.from_one c.requires.there some c.middle.result (rw (← same) c.middle.ensures) (rw (← same) wide))
    (λ one runs. rw (← same) one) in
    let end = follows_wider (HasOneEnd (slot_at box c.args.slot)) box c.wider-first.result c.wider.result c.slot.result.end.lo c.slot.result.end.hi _
    c.wider.ensures.none c.wider.ensures.some
    (λ wide. good_end box c.args.slot c.requires.shape c.requires.from_one c.requires.there some c.middle-2.result (rw (← same) c.middle-2.ensures) (rw (← same) wide))
    (λ one runs. rw (← same) one) in
    follows_then _ _ _ box c.args.best c.wider-first.result c.wider.result start end (λ first last. record { start = first; end = last })
