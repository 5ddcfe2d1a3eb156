use Rattle.std.proofs.Common.{◌≡◌, None}
use Rattle.search_node.proofs.NameLaws.{Second, AreAdded, up_to}
use Rattle.search_node.proofs.table.add_by_second.Given as goal

abbrev pub invariant-loop-b : goal.invariant-loop-b
invariant-loop-b l =
    AreAdded l.source.plant.now l.source.n (l.source.most ≡ None) (up_to Second l.spans l.b) l.initial.blocks l.blocks
