use Rattle.std.proofs.Common.{◌≡◌, []}
use Rattle.std.specs.Prelude.{fold}
use Rattle.std.specs.List.{range_with_len}
use Rattle.overlap_graph.specs.Cliques.{with_pairs}
use Rattle.overlap_graph.proofs.cover.cliques.Given as goal

abbrev pub invariant-loop-v : goal.invariant-loop-v
invariant-loop-v l = l.cliques ≡ fold (with_pairs l.plant) [] (range_with_len 0 l.v)
