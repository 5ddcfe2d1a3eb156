use Rattle.std.proofs.Common.{◌≡◌, None, replicate}
use Rattle.search_gather.proofs.placing.no_tickets.Given as goal

abbrev pub invariant-loop : goal.invariant-loop
invariant-loop l = l.held.items ≡ replicate l.counter None
