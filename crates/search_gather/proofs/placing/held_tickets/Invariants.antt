use Rattle.std.proofs.Common.{◌≡◌, None, replicate, drop, length, map}
use Rattle.search_gather.specs.inside.Placing.{written, ticket_at}
use Rattle.search_gather.proofs.placing.held_tickets.Given as goal

-- once the rest is written the table is whole
abbrev pub invariant-loop-note : goal.invariant-loop-note
invariant-loop-note l = record {
  table : written (map ticket_at (drop l.note-index l.notes)) l.held.items ≡ written (map ticket_at l.notes) (replicate (length l.notes) None);
  size : length l.held.items ≡ length l.notes;
}
