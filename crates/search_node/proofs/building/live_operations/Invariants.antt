use Rattle.std.proofs.Common.{◌<◌, All}
use Rattle.plant_model.specs.Parts.{op_count_of}
use Rattle.search_node.proofs.building.live_operations.Given as goal

-- the plant has each operation so far
abbrev pub invariant-loop-i : goal.invariant-loop-i
invariant-loop-i l = All (λ v. v < op_count_of l.plant) l.ops.items
