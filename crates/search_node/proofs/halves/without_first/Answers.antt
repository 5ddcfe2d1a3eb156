use Rattle.std.proofs.Common.{arith}
use Rattle.search_node.proofs.EvenLaws.{some_entry, one_less, still_part}
use Rattle.search_node.proofs.halves.without_first.Goals as goal

pub first_entry-requires : goal.first_entry-requires
first_entry-requires c = some_entry c.loop.rest (omega arith)

pub loop-preserved : goal.loop-preserved
loop-preserved c =
    let less = one_less c.loop.rest c.first_entry.result (omega arith) c.first_entry.ensures.small c.first_entry.ensures.member in
    record {
      part = still_part c.loop.rest c.first_entry.result c.args.set c.loop.invariant.part;
      count = omega arith;
    }
