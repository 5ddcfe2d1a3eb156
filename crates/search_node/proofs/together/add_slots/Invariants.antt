use Rattle.std.proofs.Common.{◌≡◌}
use Rattle.search_node.proofs.together.add_slots.Given as goal

-- the one slot keeps its operations, crudes and vessels
abbrev pub invariant-loop-k : goal.invariant-loop-k
invariant-loop-k l = l.one.extent ≡ l.initial.one.extent
