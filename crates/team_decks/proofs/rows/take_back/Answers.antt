use Rattle.std.proofs.Common.{◌≡◌, ◌∙◌, Option, [], ◌∷◌, ◌++◌, subst}
use Rattle.std.specs.Prelude.{MatchOption, slice_index_or}
use Rattle.std.proofs.lemmas.List.{get_or_default}
use Rattle.task_deck.specs.declared.ends.DoorPass.{DoorPass}
use Rattle.team_decks.proofs.RowLaws.{written}
use Rattle.team_decks.proofs.rows.take_back.Goals as goal

pub returns : goal.returns
returns c =
    let rows = c.args.rows.now in
    let default = c.index-as_mut_slice-number.result in
    let row = slice_index_or c.as_mut_slice.result.now c.args.number default in
    let last : row ≡ c.pop.new.self ++ c.unwrap.result ∷ [] =
    subst (λ (o : Option DoorPass). MatchOption o ((row ≡ []) × (c.pop.new.self ≡ [])) (λ (pass : DoorPass). row ≡ c.pop.new.self ++ pass ∷ [])) c.unwrap.ensures
    c.pop.ensures in (
      c.pop.new.self,
      λ other. get_or_default rows c.args.number other default c.requires.number ∙ rw c.as_mut_slice.ensures.value at last,
      rw c.as_mut_slice.ensures.value (written rows c.args.number c.pop.new.self),
    )
