use Rattle.std.proofs.Common.{length}
use Rattle.search_node.specs.Tables.{IsBlockOf}
use Rattle.search_node.proofs.rows_taken.take_blocks.Given as goal

-- what was taken so far is a block
abbrev pub invariant-loop-block : goal.invariant-loop-block
invariant-loop-block l = IsBlockOf l.weighing.plant.now (length l.weighing.bx.now) l.taken
