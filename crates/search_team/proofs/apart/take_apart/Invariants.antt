use Rattle.std.specs.Prelude.{◌≡◌, length}
use Rattle.search_team.specs.inside.Apart.{AreOwed}
use Rattle.search_team.proofs.ApartLaws.{AreApart}
use Rattle.search_team.proofs.apart.take_apart.Given as goal

abbrev pub decreases-loop-bench : goal.decreases-loop-bench
decreases-loop-bench l = length l.benches

abbrev pub invariant-loop-bench : goal.invariant-loop-bench
invariant-loop-bench l = record {
  own : l.apart.seat.board ≡ l.board;
  owed : AreOwed l.board l.benches;
  apart : AreApart l.fn.seat l.fn.benches l.benches l.apart;
}
