use Rattle.std.proofs.Common.{◌∙◌}
use Rattle.dual_bound.proofs.StoredNumbers.{read-mag}
use Rattle.search_node.proofs.WeighingLaws.{block-system, weighed-value}
use Rattle.search_node.proofs.guesses.value_by.Goals as goal

pub bound-requires-clause-system : goal.bound-requires-clause-system
bound-requires-clause-system c = block-system c.args.weighing.now c.requires.whole c.args.block.now c.requires.block

pub returns : goal.returns
returns c =
    read-mag c.bound.result c.bound.type_inv
    ∙ (c.bound.ensures.value
    ∙ weighed-value c.args.weighing.now c.requires.whole c.args.block.now c.requires.block c.args.guess.now.y c.args.guess.now.q c.requires.guess.as_many)
