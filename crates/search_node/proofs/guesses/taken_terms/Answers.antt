use Rattle.std.proofs.Common.{arith}
use Rattle.search_node.proofs.EntryLaws.{taken-more}
use Rattle.search_node.proofs.guesses.taken_terms.Goals as goal

pub loop-k-preserved : goal.loop-k-preserved
loop-k-preserved c = record {
  taken = taken-more c.args.names.now c.args.multipliers.now c.loop-k.k _ _ _ (omega arith) c.requires c.loop-k.invariant.taken
      c.in_ok-take_term.ensures.taken;
  fit = c.in_ok-take_term.ensures.fit c.loop-k.invariant.fit;
}
