use Rattle.std.proofs.Common.{◌≡◌}
use Rattle.search_tests.proofs.tests.boards.drawn.Given as goal

abbrev pub invariant-loop : goal.invariant-loop
invariant-loop l =
    (l.seat.board ≡ l.board) × (l.seat.stands ≡ l.initial.seat.stands) × (l.seat.may ≡ l.initial.seat.may)
