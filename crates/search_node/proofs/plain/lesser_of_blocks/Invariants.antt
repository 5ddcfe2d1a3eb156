use Rattle.std.proofs.Common.{take}
use Rattle.search_node.specs.inside.Candidates.{IsCandidate, IsNoWorse}
use Rattle.search_node.specs.inside.Plain.{ReachesBlocks}
use Rattle.search_node.specs.inside.Weighings.{setting_of}
use Rattle.search_node.proofs.plain.lesser_of_blocks.Given as goal

abbrev pub invariant-loop-block : goal.invariant-loop-block
invariant-loop-block l = record {
  candidate : IsCandidate (setting_of l.weighing) l.weighing.bx.now l.best;
  best : IsNoWorse l.initial.best l.best;
  blocks : ReachesBlocks (setting_of l.weighing) l.weighing.bx.now (take l.block-index l.weighing.table.now.plain) l.best;
}
