use Rattle.std.proofs.Common.{◌≡◌, List, ◌∷◌, [], ◌++◌, take, get_or, ap, subst, ◌∙◌, rules}
use Rattle.std.proofs.lemmas.List.{take_more}
use Rattle.number_laws.specs.Missing.{greater}
use Rattle.search_node.specs.declared.looked.NodeNote.{NodeNote}
use Rattle.crude_run.specs.Searched.{IsGreatestNoted}
use Rattle.crude_run.proofs.SearchLaws.{greatest-more_lists}
use Rattle.crude_run.proofs.search.greatest_of_all.Goals as goal

pub loop-notes-preserved : goal.loop-notes-preserved
loop-notes-preserved c =
    let item : get_or c.args.lists.now c.loop-notes.notes-index c.notes-item.result ≡ c.notes-item.result = search rules in
    let more = take_more c.args.lists.now c.loop-notes.notes-index c.notes-item.result c.loop-notes-test.true
    ∙ ap (λ (notes : List NodeNote). take c.loop-notes.notes-index c.args.lists.now ++ notes ∷ []) item in
    let higher : c.greater-bound.result ≡ greater c.loop-notes.bound c.greatest_noted.result = search rules in
    let here : IsGreatestNoted c.notes-item.result c.greatest_noted.result = search rules in
    rw (more, higher)
    (greatest-more_lists (take c.loop-notes.notes-index c.args.lists.now) c.notes-item.result c.loop-notes.bound c.greatest_noted.result c.loop-notes.invariant here)
