use Rattle.std.proofs.Common.{◌≡◌, ◌<◌, true, false, get_or, ap, sym, ◌∙◌, arith, length}
use Rattle.std.specs.Prelude.{fold}
use Rattle.std.specs.List.{range_with_len}
use Rattle.plant_model.specs.Parts.{op_count_of}
use Rattle.overlap_graph.specs.Sets.{is_within}
use Rattle.overlap_graph.specs.Cliques.{joined_by, clique_from, refused_masks_of}
use Rattle.overlap_graph.proofs.GraphLaws.{length-refused_masks, joined_step}
use Rattle.overlap_graph.proofs.cover.clique_from.Goals as goal
use Rattle.overlap_graph.proofs.cover.clique_from.Goals.{then-is_within, else-is_within}

pub bounds-refused-from : goal.bounds-refused-from
bounds-refused-from c =
    omega (arith, ap length c.requires, length-refused_masks c.args.plant.now, c.loop-u-test.true, c.op_count-u-end.ensures.value, c.from.ensures)

pub loop-u-preserved : goal.loop-u-preserved
loop-u-preserved c =
    let parts = c.args.plant.now in
    let u = c.loop-u.u in
    let known : u < op_count_of parts = omega (arith, c.loop-u-test.true, c.op_count-u-end.ensures.value) in
    let set : get_or c.args.refused.now c.from.result 0 ≡ get_or (refused_masks_of parts) u 0 =
    ap (λ xs. get_or xs c.from.result 0) c.requires ∙ ap (λ k. get_or (refused_masks_of parts) k 0) c.from.ensures in
    let asked = sym (ap (is_within c.loop-u.clique) set) in
    elim c.if-is_within.branch [
      | then-is_within w ↦
          joined_step parts c.args.first u c.loop-u.clique c.if-is_within.clique true known c.loop-u.invariant (asked ∙ sym w.if-is_within.ensures)
          (w.clique-is ∙ w.with_member-clique.ensures)
      | else-is_within w ↦
          joined_step parts c.args.first u c.loop-u.clique c.if-is_within.clique false known c.loop-u.invariant (asked ∙ sym w.if-is_within.ensures) w.clique-is
    ]

pub returns : goal.returns
unfolding clique_from
returns c =
    let all : c.loop-u.u ≡ op_count_of c.args.plant.now =
    omega (arith, c.loop-u-test.false, c.loop-u.auto.u-end, c.op_count-u-end.ensures.value) in
    c.loop-u.invariant ∙ ap (λ n. fold (joined_by c.args.plant.now) c.args.first (range_with_len 0 n)) all
