use Rattle.std.specs.Prelude.{length}
use Rattle.search_team.specs.inside.Benches.{IsSeating}
use Rattle.search_team.proofs.benches.seat_all.Given as goal

abbrev pub decreases-loop-owner : goal.decreases-loop-owner
decreases-loop-owner l = length l.owners

abbrev pub invariant-loop-owner : goal.invariant-loop-owner
invariant-loop-owner l = IsSeating l.fn.seat l.fn.owners l.owners l.fn.rows l.rows l.fn.root l.root l.seat l.benches
