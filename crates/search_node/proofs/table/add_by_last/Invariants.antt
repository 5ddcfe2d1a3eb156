use Rattle.std.proofs.Common.{◌≡◌, None}
use Rattle.search_node.proofs.NameLaws.{Last, AreAdded, up_to}
use Rattle.search_node.proofs.table.add_by_last.Given as goal

abbrev pub invariant-loop-d : goal.invariant-loop-d
invariant-loop-d l =
    AreAdded l.source.plant.now l.source.n (l.source.most ≡ None) (up_to Last l.spans l.d) l.initial.blocks l.blocks
