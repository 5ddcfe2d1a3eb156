use Rattle.std.proofs.Common.{◌≡◌, ◌-◌}
use Rattle.std.specs.Prelude.{fold}
use Rattle.std.specs.List.{range_with_len}
use Rattle.overlap_graph.specs.Cliques.{with_pair}
use Rattle.overlap_graph.proofs.cover.add_pairs.Given as goal

abbrev pub invariant-loop-w : goal.invariant-loop-w
invariant-loop-w l = l.cliques ≡ fold (with_pair l.plant l.v) l.initial.cliques (range_with_len l.v (l.w - l.v))
