use Rattle.std.proofs.Common.{◌≡◌, ◌∙◌, [], ◌∷◌, ◌++◌, ap, set, List, rules}
use Rattle.std.specs.Prelude.{slice_index_or}
use Rattle.std.proofs.lemmas.List.{get_or_default}
use Rattle.task_deck.specs.declared.ends.DoorPass.{DoorPass}
use Rattle.team_decks.proofs.RowLaws.{written}
use Rattle.team_decks.proofs.rows.give.Goals as goal

pub returns : goal.returns
returns c =
    let rows = c.args.rows.now in
    let at = c.args.number in
    let default = c.index-as_mut_slice-number.result in
    let pushed : c.push.new.self ≡ slice_index_or c.as_mut_slice.result.now at default ++ c.args.pass ∷ [] = search rules in λ row.
    rw (pushed, c.as_mut_slice.ensures.value)
    (written rows at (slice_index_or rows at default ++ c.args.pass ∷ [])
    ∙ ap (λ (l : List DoorPass). set rows at (l ++ c.args.pass ∷ [])) (get_or_default rows at default row c.requires))
