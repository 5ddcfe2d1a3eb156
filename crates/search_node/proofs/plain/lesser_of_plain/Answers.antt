use Rattle.std.proofs.Common.{length}
use Rattle.search_node.specs.inside.Candidates.{IsNoWorse}
use Rattle.search_node.specs.inside.Plain.{ReachesBlocks, ReachesPlainGuesses}
use Rattle.search_node.specs.inside.Weighings.{setting_of}
use Rattle.search_node.proofs.ReachLaws.{both-found, guesses-reached}
use Rattle.search_node.proofs.plain.lesser_of_plain.Goals as goal

pub returns-clause-plain : goal.returns-clause-plain
returns-clause-plain c =
    let weighing = c.args.weighing.now in
    let box = weighing.bx.now in
    both-found c.lesser_of_blocks.result (IsNoWorse c.in_ok-best.best) (ReachesBlocks (setting_of weighing) box weighing.table.now.plain)
    (ReachesPlainGuesses (setting_of weighing) box)
    (λ found worse blocks. guesses-reached weighing.plant.now (length box) weighing.table.now c.requires.whole.table box found
    (worse.reaches _ c.in_ok-best.ensures.none) blocks)
    c.lesser_of_blocks.ensures.best c.lesser_of_blocks.ensures.blocks
