use Rattle.std.proofs.Common.{◌≡◌, take}
use Rattle.search_node.specs.inside.Warming.{AreWarmEntries}
use Rattle.search_node.specs.inside.Weighings.{setting_of}
use Rattle.search_node.proofs.warm.warm_entries.Given as goal

abbrev pub invariant-loop-term : goal.invariant-loop-term
invariant-loop-term l = record {
  entries : AreWarmEntries (setting_of l.weighing) (take l.term-index l.terms) l.warm;
  q : l.warm.guess.q ≡ l.fn.q;
}
