use Rattle.std.proofs.Common.{◌≡◌, ap, ◌∙◌, arith}
use Rattle.overlap_graph.specs.Sets.{set_of}
use Rattle.plant_model.specs.Parts.{op_count_of}
use Rattle.blend_cuts.specs.CutRows.{brings, bringing_of}
use Rattle.blend_cuts.proofs.rows.bringing.Goals as goal

pub returns : goal.returns
unfolding bringing_of
returns c =
    let all : c.loop-u.u ≡ op_count_of c.args.plant.now = omega (arith, c.loop-u-test.false, c.loop-u.auto.u-end, c.op_count-u-end.ensures.value) in
    c.loop-u.invariant ∙ ap (λ n. set_of n (brings c.args.plant.now c.args.cut.now)) all
