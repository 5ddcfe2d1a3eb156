use Rattle.std.proofs.Common.{List, sym, subst}
use Rattle.search_node.specs.declared.block.RowBlock.{RowBlock}
use Rattle.search_node.specs.inside.Spans.{AreBlocks}
use Rattle.search_node.proofs.table.RowTable.find.Goals as goal

pub returns-in-Some : goal.returns-in-Some
returns-in-Some c = λ parts n table.
    c.in-Some.ensures parts n (subst (λ (blocks : List RowBlock). AreBlocks parts n blocks) (sym c.as_slice.ensures) table.plain)

pub returns-in-None : goal.returns-in-None
returns-in-None c = λ parts n table.
    c.find_in-in-None.ensures parts n
    (subst (λ (blocks : List RowBlock). AreBlocks parts n blocks) (sym c.as_slice-in-None.ensures) table.others)
