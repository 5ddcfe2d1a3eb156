use Rattle.std.proofs.Common.{arith}
use Rattle.search_node.proofs.EvenLaws.{some_entry, halves, part_less}
use Rattle.search_node.proofs.halves.upper_half.Goals as goal

pub returns-clause-half : goal.returns-clause-half
returns-clause-half c =
    halves c.args.live c.without_first.result c.ranges.live.fits c.without_first.ensures.part (omega arith)

pub returns-clause-some : goal.returns-clause-some
returns-clause-some c = some_entry c.without_first.result (omega arith)

pub returns-clause-less : goal.returns-clause-less
returns-clause-less c = part_less c.args.live c.without_first.result c.without_first.ensures.part (omega arith)
