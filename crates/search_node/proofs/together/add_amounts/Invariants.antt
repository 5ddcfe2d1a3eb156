use Rattle.std.proofs.Common.{◌≡◌}
use Rattle.search_node.proofs.together.add_amounts.Given as goal

-- the one slot keeps its operations, crudes and vessels
abbrev pub invariant-loop-crude : goal.invariant-loop-crude
invariant-loop-crude l = l.one.extent ≡ l.initial.one.extent
