use Rattle.std.proofs.Common.{get_or, arith}
use Rattle.crude_amounts.proofs.DrawLaws.{sum-set_most}
use Rattle.crude_amounts.proofs.amounts.tests.amounts_of.Goals as goal

pub set-requires-clause-total : goal.set-requires-clause-total
set-requires-clause-total g c =
    let most = sum-set_most c.loop-c.amounts c.loop-c.c (get_or c.args.list.now c.loop-c.c 0) in omega (arith, most)
