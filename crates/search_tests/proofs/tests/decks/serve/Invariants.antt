use Rattle.std.proofs.Common.{◌≡◌}
use Rattle.task_deck.specs.Decks.{deck_of, owner_view}
use Rattle.search_tests.proofs.tests.decks.serve.Given as goal

abbrev pub invariant-loop-id : goal.invariant-loop-id
invariant-loop-id l =
    (deck_of l.owner ≡ deck_of l.initial.owner) × ((owner_view l.owner).passes ≡ (owner_view l.initial.owner).passes)
