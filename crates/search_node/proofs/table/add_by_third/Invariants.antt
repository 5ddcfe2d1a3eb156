use Rattle.std.proofs.Common.{◌≡◌, None}
use Rattle.search_node.proofs.NameLaws.{Third, AreAdded, up_to}
use Rattle.search_node.proofs.table.add_by_third.Given as goal

abbrev pub invariant-loop-c : goal.invariant-loop-c
invariant-loop-c l =
    AreAdded l.source.plant.now l.source.n (l.source.most ≡ None) (up_to Third l.spans l.c) l.initial.blocks l.blocks
