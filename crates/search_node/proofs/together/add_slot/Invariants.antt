use Rattle.std.proofs.Common.{◌≡◌}
use Rattle.search_node.proofs.together.add_slot.Given as goal

-- the one slot keeps its operations, crudes and vessels
abbrev pub invariant-loop-v : goal.invariant-loop-v
invariant-loop-v l = l.one.extent ≡ l.initial.one.extent
