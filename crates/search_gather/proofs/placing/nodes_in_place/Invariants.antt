use Rattle.std.proofs.Common.{◌≡◌, replicate, length, map, ◌+◌, ◌*◌}
use Rattle.search_gather.specs.inside.Placing.{written, node_at, HaveTurns, empty_place}
use Rattle.search_gather.proofs.placing.nodes_in_place.Given as goal

-- once the rest is written the table is whole
abbrev pub invariant-loop-note : goal.invariant-loop-note
invariant-loop-note l = record {
  table : written (map (node_at l.turns) l.note-iterator.rest.items) l.nodes.items ≡ written (map (node_at l.turns) l.fn.notes) (replicate (length l.fn.notes) empty_place);
  size : length l.nodes.items ≡ 2 * length l.turns + 1;
  same : l.turns ≡ l.fn.turns;
  have : HaveTurns l.turns l.note-iterator.rest.items;
}
