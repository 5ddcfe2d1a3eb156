use Rattle.std.proofs.Common.{length}
use Rattle.search_node.specs.Tables.{IsBlockOf}
use Rattle.search_node.proofs.rows_taken.take_rows.Given as goal

-- what was taken so far is a block
abbrev pub invariant-loop-class : goal.invariant-loop-class
invariant-loop-class l = IsBlockOf l.weighing.plant.now (length l.weighing.bx.now) l.block
