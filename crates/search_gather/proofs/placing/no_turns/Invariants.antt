use Rattle.std.proofs.Common.{◌≡◌, replicate}
use Rattle.search_gather.proofs.placing.no_turns.Given as goal

abbrev pub invariant-loop : goal.invariant-loop
invariant-loop l = l.turns.items ≡ replicate l.counter 0
