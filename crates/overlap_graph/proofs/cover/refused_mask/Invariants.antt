use Rattle.std.proofs.Common.{◌≡◌}
use Rattle.plant_model.specs.Relations.{refused_at_once_of}
use Rattle.overlap_graph.specs.Sets.{set_of}
use Rattle.overlap_graph.proofs.cover.refused_mask.Given as goal

abbrev pub invariant-loop-w : goal.invariant-loop-w
invariant-loop-w l = l.mask ≡ set_of l.w (refused_at_once_of l.plant l.v)
