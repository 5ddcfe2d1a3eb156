use Rattle.std.proofs.Common.{◌≡◌, ap, ◌∙◌, arith}
use Rattle.plant_model.specs.Parts.{op_count_of}
use Rattle.plant_model.specs.Relations.{refused_at_once_of}
use Rattle.overlap_graph.specs.Sets.{set_of}
use Rattle.overlap_graph.specs.Cliques.{refused_mask_of}
use Rattle.overlap_graph.proofs.cover.refused_mask.Goals as goal

pub returns : goal.returns
unfolding refused_mask_of
returns c =
    let all : c.loop-w.w ≡ op_count_of c.args.plant.now =
    omega (arith, c.loop-w-test.false, c.loop-w.auto.w-end, c.op_count-w-end.ensures.value) in
    c.loop-w.invariant ∙ ap (λ n. set_of n (refused_at_once_of c.args.plant.now c.args.v)) all
