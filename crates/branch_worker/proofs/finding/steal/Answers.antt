use Rattle.std.proofs.Common.{◌≡◌, ◌∷◌, [], ◌++◌, refl, subst}
use Rattle.std.specs.Prelude.{slice_index_or}
use Rattle.slot_box.specs.Tasks.{TaskParts}
use Rattle.task_deck.specs.Decks.{deck_behind, pass_view}
use Rattle.task_deck.specs.declared.ends.Stolen.{Stolen}
use Rattle.task_deck.specs.Steals.{MatchStolen}
use Rattle.branch_worker.proofs.FindLaws.{IsWorking-not_stolen, IsWorking-stolen, nothing-stolen}
use Rattle.branch_worker.proofs.finding.steal.Goals as goal

pub returns-in-Got-clause-working : goal.returns-in-Got-clause-working
returns-in-Got-clause-working g c =
    let new = c.steal.new.pass in
    let old = slice_index_or c.as_mut_slice.result.now c.args.place c.index-as_mut_slice-place.result in
    let rule : pass_view new ≡ record (pass_view old) { stolen = (pass_view old).stolen ++ c.in-Got.task ∷ [] } =
    subst (λ (s : Stolen). MatchStolen s (pass_view new ≡ pass_view old)
    (λ (task : TaskParts). pass_view new ≡ record (pass_view old) { stolen = (pass_view old).stolen ++ task ∷ [] })) c.in-Got.is c.steal.ensures.rule in
    rw c.as_mut_slice.ensures.value
    (IsWorking-stolen g.start c.args.worker.now c.args.place c.index-as_mut_slice-place.result new (deck_behind c.args.door.now) c.requires.0 c.requires.1.1.0
    (c.requires.1.1.1 c.index-as_mut_slice-place.result) c.steal.ensures.of c.in-Got.task c.requires.1.0 (rw c.as_mut_slice.ensures.value at rule))

pub returns-in-Empty : goal.returns-in-Empty
returns-in-Empty g c =
    let new = c.steal.new.pass in
    let old = slice_index_or c.as_mut_slice.result.now c.args.place c.index-as_mut_slice-place.result in
    let rule : pass_view new ≡ pass_view old = nothing-stolen c.steal.result (pass_view new ≡ pass_view old)
    (λ (task : TaskParts). pass_view new ≡ record (pass_view old) { stolen = (pass_view old).stolen ++ task ∷ [] }) c.in-Empty.is c.steal.ensures.rule in
    record {
      working = rw c.as_mut_slice.ensures.value
          (IsWorking-not_stolen g.start c.args.worker.now c.args.place c.index-as_mut_slice-place.result new (deck_behind c.args.door.now) c.requires.0
          c.requires.1.1.0 (c.requires.1.1.1 c.index-as_mut_slice-place.result) c.steal.ensures.of (rw c.as_mut_slice.ensures.value at rule));
      others = refl;
    }
