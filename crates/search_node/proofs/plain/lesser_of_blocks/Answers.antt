use Rattle.std.proofs.Common.{◌≤◌, List, length, ap, subst, arith}
use Rattle.std.proofs.lemmas.List.{take_all}
use Rattle.search_node.specs.declared.block.RowBlock.{RowBlock}
use Rattle.search_node.specs.inside.Plain.{ReachesBlocks}
use Rattle.search_node.specs.inside.Weighings.{setting_of}
use Rattle.search_node.proofs.ReachLaws.{blocks-more, worse-trans}
use Rattle.search_node.proofs.plain.lesser_of_blocks.Goals as goal

pub loop-block-preserved : goal.loop-block-preserved
loop-block-preserved c =
    let same = ap (length {A = RowBlock}) c.as_slice-block-items.ensures in
    record {
      candidate = c.in_ok-best.ensures.candidate;
      best = worse-trans c.args.best c.loop-block.best c.in_ok-best.best c.loop-block.invariant.best c.in_ok-best.ensures.best;
      blocks = blocks-more (setting_of c.args.weighing.now) c.args.weighing.now.bx.now c.args.weighing.now.table.now.plain c.loop-block.block-index
          c.block-item.result c.loop-block.best c.in_ok-best.best (omega arith) (rw c.as_slice-block-items.ensures at c.block-item.is)
          c.in_ok-best.ensures.best c.loop-block.invariant.blocks c.in_ok-best.ensures.powers;
    }

pub returns-clause-blocks : goal.returns-clause-blocks
returns-clause-blocks c =
    let plain = c.args.weighing.now.table.now.plain in
    let same = ap (length {A = RowBlock}) c.as_slice-block-items.ensures in
    let past : length plain ≤ c.loop-block.block-index = omega arith in
    subst (λ (blocks : List RowBlock). ReachesBlocks (setting_of c.args.weighing.now) c.args.weighing.now.bx.now blocks c.loop-block.best)
    (take_all c.loop-block.block-index plain past) c.loop-block.invariant.blocks
