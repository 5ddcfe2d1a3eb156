use Rattle.std.proofs.Common.{length}
use Rattle.search_node.specs.Tables.{IsBlockOf}
use Rattle.search_node.proofs.rows_taken.take_block.Given as goal

-- what was taken so far is a block
abbrev pub invariant-loop-place : goal.invariant-loop-place
invariant-loop-place l = IsBlockOf l.weighing.plant.now (length l.weighing.bx.now) l.taken
