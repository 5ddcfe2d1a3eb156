use Rattle.std.proofs.Common.{◌≡◌, List, rules, subst}
use Rattle.search_node.specs.declared.looked.NodeNote.{NodeNote}
use Rattle.crude_run.specs.Searched.{IsGreatestNoted, all_noted}
use Rattle.crude_run.proofs.SearchLaws.{IsFound-from, of-tree}
use Rattle.crude_run.proofs.search.end_search.Goals as goal

pub gather-requires-clause-settled : goal.gather-requires-clause-settled
gather-requires-clause-settled c =
    of-tree c.args.plant.now c.args.ask.slots c.args.ask.workers c.args.board c.args.first c.args.together c.requires.searched c.args.ask.nodes
    c.close-closed.result.tickets c.close-closed.result.best c.requires.tickets c.requires.most_nodes c.close-closed.ensures

pub returns : goal.returns
returns c =
    let notes : c.as_slice.result.now ≡ c.args.together.notes = search rules in
    IsFound-from c.args.plant.now c.args.ask.slots c.args.ask.workers c.args.board c.args.first c.args.together c.requires.searched c.args.ask.nodes
    c.close-closed.result.tickets c.close-closed.result.best c.requires.tickets c.requires.most_nodes c.close-closed.ensures c.better.result
    c.greatest_of_all-bound.result c.in_ok-tree.tree.nodes c.requires.built c.in_ok-tree.ensures.nodes
    (subst (λ (l : List (List NodeNote)). IsGreatestNoted (all_noted l) c.greatest_of_all-bound.result) notes c.greatest_of_all-bound.ensures)
    c.better.ensures.margin c.better.ensures.one c.node_list_laws.ensures.cost
    (c.form_laws.ensures.boxes c.args.ask.slots c.requires.some_slots c.requires.most_slots)
