use Rattle.std.proofs.Common.{◌≡◌, ◌-◌, ◌+◌, ap, sym, ◌∙◌, arith}
use Rattle.std.specs.Prelude.{fold}
use Rattle.std.specs.List.{range_with_len}
use Rattle.plant_model.specs.Parts.{op_count_of}
use Rattle.overlap_graph.specs.Cliques.{with_pair}
use Rattle.overlap_graph.proofs.GraphLaws.{fold_range_more}
use Rattle.overlap_graph.proofs.cover.add_pairs.Goals as goal

pub loop-w-preserved : goal.loop-w-preserved
loop-w-preserved c =
    let v = c.args.v in
    let w = c.loop-w.w in
    let step = with_pair c.args.plant.now v in
    let first = c.args.cliques.now in
    let at : v + (w - v) ≡ w = omega (arith, c.loop-w.auto.w) in
    let next : w + 1 - v ≡ w - v + 1 = omega (arith, c.loop-w.auto.w) in
    c.in_ok-add_pair.ensures ∙ ap (λ xs. step xs w) c.loop-w.invariant
    ∙ ap (step (fold step first (range_with_len v (w - v)))) (sym at)
    ∙ sym (ap (λ n. fold step first (range_with_len v n)) next ∙ fold_range_more step first v (w - v))

pub returns : goal.returns
returns c =
    let all : c.loop-w.w ≡ op_count_of c.args.plant.now =
    omega (arith, c.loop-w-test.false, c.loop-w.auto.w-end, c.op_count-w-end.ensures.value, c.requires.known) in
    c.loop-w.invariant ∙ ap (λ n. fold (with_pair c.args.plant.now c.args.v) c.args.cliques.now (range_with_len c.args.v (n - c.args.v))) all
