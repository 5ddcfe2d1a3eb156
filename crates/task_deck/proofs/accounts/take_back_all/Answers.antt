use Rattle.std.proofs.Common.{sym, ap, ◌∙◌, subst, List}
use Rattle.std.proofs.lemmas.List.Elements.{Contains-push}
use Rattle.std.specs.Prelude.{Contains}
use Rattle.crossbeam_deque.specs.Handles.{view, worker_view}
use Rattle.task_deck.specs.Decks.{DeckId, IsPassOfDeck}
use Rattle.task_deck.specs.declared.ends.DoorPass.{DoorPass}
use Rattle.task_deck.specs.declared.hand.Hand.{Hand}
use Rattle.number_counts.proofs.Members.{among-longer}
use Rattle.task_deck.proofs.ReturnLaws.{known-step, view-step}
use Rattle.task_deck.proofs.accounts.take_back_all.Goals as goal

pub take_back-requires-clause-of : goal.take_back-requires-clause-of
take_back-requires-clause-of c =
    subst (λ (d : DeckId). IsPassOfDeck d c.in-Some.pass) (sym c.loop-pass.invariant.deck)
    (c.loop-pass.invariant.of c.in-Some.pass
    (subst (λ (l : List DoorPass). Contains l c.in-Some.pass) (sym c.in-Some.ensures) (Contains-push _ _)))

pub loop-pass-preserved : goal.loop-pass-preserved
loop-pass-preserved c = record {
  deck = c.take_back.ensures.same.0 ∙ c.loop-pass.invariant.deck;
  flavor = c.take_back.ensures.same.1 ∙ c.loop-pass.invariant.flavor;
  of = λ pass among.
      c.loop-pass.invariant.of pass
      (subst (λ (l : List DoorPass). Contains l pass) (sym c.in-Some.ensures) (among-longer _ _ pass among));
  view = view-step (worker_view c.args.deque.now) (worker_view c.loop-pass.deque) (worker_view c.take_back.new.deque)
      (view c.in-Some.pass.mark) c.loop-pass.invariant.view c.take_back.ensures.known;
  known = known-step _ _ c.in-Some.pass _ _ _ c.in-Some.ensures (ap (λ (h : Hand). h.known) c.take_back.ensures.known) c.loop-pass.invariant.known;
}
