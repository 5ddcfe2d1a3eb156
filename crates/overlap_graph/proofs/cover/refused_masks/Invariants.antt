use Rattle.std.proofs.Common.{◌≡◌, map}
use Rattle.std.specs.List.{range_with_len}
use Rattle.overlap_graph.specs.Cliques.{refused_mask_of}
use Rattle.overlap_graph.proofs.cover.refused_masks.Given as goal

abbrev pub invariant-loop-v : goal.invariant-loop-v
invariant-loop-v l = l.masks ≡ map (refused_mask_of l.plant) (range_with_len 0 l.v)
