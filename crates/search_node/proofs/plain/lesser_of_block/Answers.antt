use Rattle.std.proofs.Common.{length, subst, arith}
use Rattle.std.proofs.lemmas.Result.{IfOk-weaker}
use Rattle.dual_bound.specs.Improving.{IsBelowSingles}
use Rattle.leaf_value.specs.LeafValue.{dual_value_of}
use Rattle.search_node.specs.declared.guesses.Candidate.{Candidate}
use Rattle.search_node.specs.inside.Candidates.{Reaches, entries_by}
use Rattle.search_node.specs.inside.Plain.{ReachesPowers}
use Rattle.search_node.specs.inside.Weighings.{setting_of}
use Rattle.search_node.proofs.EntryLaws.{as-many}
use Rattle.search_node.proofs.ReachLaws.{powers-reached}
use Rattle.search_node.proofs.WeighingLaws.{block-system, weighed-value}
use Rattle.search_node.proofs.plain.lesser_of_block.Goals as goal

pub zeros-requires : goal.zeros-requires
zeros-requires c = as-many c.args.weighing.now.plant.now (length c.args.weighing.now.bx.now) c.args.block.now c.requires.block

pub improve-requires-clause-system : goal.improve-requires-clause-system
improve-requires-clause-system c = block-system c.args.weighing.now c.requires.whole c.args.block.now c.requires.block

pub returns-clause-powers : goal.returns-clause-powers
returns-clause-powers c =
    let weighing = c.args.weighing.now in
    let block = c.args.block.now in
    let guess = c.in_ok-guess.guess in
    let value = dual_value_of (setting_of weighing) weighing.bx.now guess.q (entries_by block.names guess.y) in
    let same = weighed-value weighing c.requires.whole block c.requires.block guess.y guess.q c.in_ok-guess.ensures.guess.as_many in
    let below = subst (IsBelowSingles block.rows weighing.ranges.now weighing.table.now.objective) same (c.in_ok-guess.ensures.singles (omega arith)) in
    IfOk-weaker c.lesser_by.result (λ (found : Candidate). Reaches found value) (ReachesPowers (setting_of weighing) weighing.bx.now block)
    (λ found reached. powers-reached weighing c.requires.whole block c.requires.block found value below reached) c.lesser_by.ensures.reaches
