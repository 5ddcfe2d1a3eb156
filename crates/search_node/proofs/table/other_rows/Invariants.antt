use Rattle.search_node.specs.inside.Spans.{AreBlocks}
use Rattle.search_node.proofs.table.other_rows.Given as goal

abbrev pub invariant-loop-spans : goal.invariant-loop-spans
invariant-loop-spans l = AreBlocks l.plant l.n l.blocks
