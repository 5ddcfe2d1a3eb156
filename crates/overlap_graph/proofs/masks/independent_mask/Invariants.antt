use Rattle.std.proofs.Common.{◌≡◌}
use Rattle.plant_model.specs.Relations.{independent_of}
use Rattle.overlap_graph.specs.Sets.{set_of}
use Rattle.overlap_graph.proofs.masks.independent_mask.Given as goal

abbrev pub invariant-loop-w : goal.invariant-loop-w
invariant-loop-w l = l.mask ≡ set_of l.w (independent_of l.plant l.v)
