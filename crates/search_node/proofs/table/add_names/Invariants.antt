use Rattle.std.proofs.Common.{◌≡◌, None}
use Rattle.search_node.proofs.NameLaws.{First, AreAdded, up_to}
use Rattle.search_node.proofs.table.add_names.Given as goal

abbrev pub invariant-loop-a : goal.invariant-loop-a
invariant-loop-a l =
    AreAdded l.source.plant.now l.source.n (l.source.most ≡ None) (up_to First l.spans l.a) l.initial.blocks l.blocks
