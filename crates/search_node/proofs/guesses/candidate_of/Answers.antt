use Rattle.std.proofs.Common.{length, ap, sym, ◌∙◌, refl}
use Rattle.dual_bound.proofs.StoredNumbers.{read-mag}
use Rattle.search_node.proofs.EntryLaws.{as-many}
use Rattle.search_node.proofs.WeighingLaws.{block-system, weighed-candidate}
use Rattle.search_node.proofs.guesses.candidate_of.Goals as goal

pub taken_terms-requires : goal.taken_terms-requires
taken_terms-requires c =
    ap length c.as_slice-2.ensures ∙ c.requires.guess.as_many
    ∙ as-many c.args.weighing.now.plant.now (length c.args.weighing.now.bx.now) c.args.block.now c.requires.block ∙ sym (ap length c.as_slice.ensures)

pub shows_empty-requires-clause-system : goal.shows_empty-requires-clause-system
shows_empty-requires-clause-system c = block-system c.args.weighing.now c.requires.whole c.args.block.now c.requires.block

pub returns-clause-candidate : goal.returns-clause-candidate
returns-clause-candidate c =
    weighed-candidate c.args.weighing.now c.requires.whole c.args.block.now c.requires.block c.args.guess.now.y c.args.guess.now.q _ c.requires.guess refl
    (rw (c.as_slice.ensures, c.as_slice-2.ensures) at c.in_ok-taken_terms.ensures.taken) c.in_ok-taken_terms.ensures.fit
    (read-mag c.value_by.result c.value_by.type_inv ∙ c.value_by.ensures) c.shows_empty.ensures.exact
