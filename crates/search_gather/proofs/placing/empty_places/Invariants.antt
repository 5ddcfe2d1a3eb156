use Rattle.std.proofs.Common.{◌≡◌, replicate}
use Rattle.search_gather.specs.inside.Placing.{empty_place}
use Rattle.search_gather.proofs.placing.empty_places.Given as goal

abbrev pub invariant-loop : goal.invariant-loop
invariant-loop l = l.nodes.items ≡ replicate l.counter empty_place
