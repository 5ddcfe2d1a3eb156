use Rattle.std.proofs.Common.{rules}
use Rattle.search_node.proofs.BlockLaws.{block_more}
use Rattle.search_node.proofs.block.RowBlock.push.Goals as goal

pub returns-clause-block : goal.returns-clause-block
returns-clause-block c = λ parts n block named fits.
    block_more parts n c.args.self.now _ c.args.name c.args.row c.requires (search rules) (search rules) block named fits
