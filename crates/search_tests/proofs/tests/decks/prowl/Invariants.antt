use Rattle.std.proofs.Common.{◌≡◌}
use Rattle.task_deck.specs.Decks.{deck_behind, pass_view, IsPassOfDeck}
use Rattle.search_tests.proofs.tests.decks.prowl.Given as goal

abbrev pub invariant-loop : goal.invariant-loop
invariant-loop l =
    IsPassOfDeck (deck_behind l.door) l.pass × ((pass_view l.pass).number ≡ (pass_view l.initial.pass).number)
