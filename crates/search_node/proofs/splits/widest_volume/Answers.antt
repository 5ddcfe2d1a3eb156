use Rattle.std.proofs.Common.{◌+◌, All, MatchOption, subst, arith}
use Rattle.std.proofs.lemmas.List.{take_all}
use Rattle.slot_box.specs.Boxes.{slot_at}
use Rattle.search_node.specs.inside.Splitting.{HasOneVolume, IsGood}
use Rattle.search_node.proofs.CutLaws.{each_more, found_next}
use Rattle.search_node.proofs.splits.widest_volume.Goals as goal

pub loop-i-preserved : goal.loop-i-preserved
loop-i-preserved c =
    found_next (HasOneVolume (slot_at c.args.bx.now (c.loop-i.i + 1))) _ _ c.args.bx.now c.loop-i.best c.wider_volume-best.result c.wider_volume-best.ensures
    (λ before here. each_more HasOneVolume c.args.bx.now c.loop-i.i (omega arith) before here) c.loop-i.invariant

pub returns-clause-found : goal.returns-clause-found
returns-clause-found c =
    subst (λ slots. MatchOption c.loop-i.best (All HasOneVolume slots) (λ cut. IsGood c.args.bx.now cut.split))
    (take_all c.loop-i.i c.args.bx.now (omega arith)) c.loop-i.invariant
