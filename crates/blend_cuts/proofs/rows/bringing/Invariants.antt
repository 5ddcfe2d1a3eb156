use Rattle.std.proofs.Common.{◌≡◌}
use Rattle.overlap_graph.specs.Sets.{set_of}
use Rattle.blend_cuts.specs.CutRows.{brings}
use Rattle.blend_cuts.proofs.rows.bringing.Given as goal

abbrev pub invariant-loop-u : goal.invariant-loop-u
invariant-loop-u l = l.mask ≡ set_of l.u (brings l.plant l.cut)
