use Rattle.std.proofs.Common.{◌≡◌, ◌∷◌, [], ◌++◌, take, get_or, ap, ◌∙◌, rules}
use Rattle.std.proofs.lemmas.List.{take_more}
use Rattle.number_laws.specs.Missing.{greater}
use Rattle.search_node.specs.declared.looked.NodeNote.{NodeNote}
use Rattle.crude_run.specs.Searched.{leaf_value_noted}
use Rattle.crude_run.proofs.SearchLaws.{greatest-more}
use Rattle.crude_run.proofs.search.greatest_noted.Goals as goal

pub loop-note-preserved : goal.loop-note-preserved
loop-note-preserved c =
    let item : get_or c.args.notes.now c.loop-note.note-index c.note-item.result ≡ c.note-item.result = search rules in
    let more = take_more c.args.notes.now c.loop-note.note-index c.note-item.result c.loop-note-test.true
    ∙ ap (λ (note : NodeNote). take c.loop-note.note-index c.args.notes.now ++ note ∷ []) item in
    let higher : c.greater-bound.result ≡ greater c.loop-note.bound (leaf_value_noted c.note-item.result) = search rules in
    rw (more, higher) (greatest-more (take c.loop-note.note-index c.args.notes.now) c.note-item.result c.loop-note.bound c.loop-note.invariant)
