use Rattle.crude_amounts.proofs.CellLaws.{zeros_are_cells, amounts_in-zeros}
use Rattle.crude_amounts.proofs.amounts.Amounts.zero.Goals as goal

pub invariant_of-result : goal.invariant_of-result
invariant_of-result c = zeros_are_cells c.args.m c.requires.some c.requires.most

pub returns : goal.returns
returns c = amounts_in-zeros c.args.m c.requires.most
