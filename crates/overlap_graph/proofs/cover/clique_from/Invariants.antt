use Rattle.std.proofs.Common.{◌≡◌}
use Rattle.std.specs.Prelude.{fold}
use Rattle.std.specs.List.{range_with_len}
use Rattle.overlap_graph.specs.Cliques.{joined_by}
use Rattle.overlap_graph.proofs.cover.clique_from.Given as goal

abbrev pub invariant-loop-u : goal.invariant-loop-u
invariant-loop-u l = l.clique ≡ fold (joined_by l.plant) l.first (range_with_len 0 l.u)
