use Rattle.std.proofs.Common.{◌≡◌, replicate, drop, length}
use Rattle.search_gather.specs.inside.Placing.{written, turns_from}
use Rattle.search_gather.proofs.placing.places_of.Given as goal

-- once the rest is written the table is whole
abbrev pub invariant-loop-ticket : goal.invariant-loop-ticket
invariant-loop-ticket l = record {
  table : written (turns_from l.turn (drop l.ticket-index l.order)) l.turns.items ≡ written (turns_from 0 l.order) (replicate (length l.order) 0);
  size : length l.turns.items ≡ length l.order;
  turn : l.turn ≡ l.ticket-index;
}
