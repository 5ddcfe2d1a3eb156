use Rattle.std.proofs.Common.{◌≡◌, ◌+◌}
use Rattle.std.specs.Prelude.{count_ones}
use Rattle.search_node.specs.inside.Splitting.{IsPartOf}
use Rattle.search_node.proofs.halves.without_first.Given as goal

-- so many entries are left out so far
abbrev pub invariant-loop : goal.invariant-loop
invariant-loop l =
    record { part : IsPartOf l.rest l.set; count : count_ones l.rest + l.counter ≡ count_ones l.set }
