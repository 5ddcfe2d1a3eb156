use Rattle.std.proofs.Common.{◌∙◌, arith}
use Rattle.search_node.specs.inside.Weighings.{setting_of}
use Rattle.search_node.proofs.WarmLaws.{warm-next}
use Rattle.search_node.proofs.warm.warm_entries.Goals as goal

pub loop-term-preserved : goal.loop-term-preserved
loop-term-preserved c = record {
  entries = warm-next (setting_of c.args.weighing.now) c.args.terms.now c.loop-term.term-index _ c.loop-term.warm c.enter.new.self (omega arith)
      c.requires.warm c.loop-term.invariant.entries c.in_ok-enter.ensures.entries;
  q = c.in_ok-enter.ensures.q ∙ c.loop-term.invariant.q;
}
