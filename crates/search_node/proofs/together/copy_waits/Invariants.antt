use Rattle.std.proofs.Common.{◌≡◌}
use Rattle.search_node.proofs.together.copy_waits.Given as goal

-- the one slot keeps its operations, crudes and vessels
abbrev pub invariant-loop-vessel : goal.invariant-loop-vessel
invariant-loop-vessel l = l.one.extent ≡ l.initial.one.extent
