use Rattle.search_node.proofs.WeighingLaws.{block-system}
use Rattle.search_node.proofs.simplex.multipliers_of.Goals as goal

pub multipliers_by-requires-clause-system : goal.multipliers_by-requires-clause-system
multipliers_by-requires-clause-system c = block-system c.args.weighing.now c.requires.whole c.args.block.now c.requires.block
