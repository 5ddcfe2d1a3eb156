use Rattle.std.proofs.Common.{◌≡◌, [], All, ap, sym, subst, ◌∙◌, arith}
use Rattle.std.specs.Prelude.{fold}
use Rattle.std.specs.List.{range_with_len}
use Rattle.plant_model.specs.Parts.{op_count_of}
use Rattle.overlap_graph.specs.Cliques.{with_pairs, cliques_of, IsClique, IsCover}
use Rattle.overlap_graph.proofs.GraphLaws.{one_more, each_is_clique, each_pair_is_covered}
use Rattle.overlap_graph.proofs.cover.cliques.Goals as goal

pub loop-v-preserved : goal.loop-v-preserved
loop-v-preserved c =
    let step = with_pairs c.args.plant.now in
    c.in_ok-add_pairs.ensures ∙ ap (λ xs. step xs c.loop-v.v) c.loop-v.invariant ∙ sym (one_more step [] c.loop-v.v)

whole : (c : goal.After-drop-refused-inside-2) → c.loop-v.cliques ≡ cliques_of c.args.plant.now
unfolding cliques_of
whole c =
    let all : c.loop-v.v ≡ op_count_of c.args.plant.now =
    omega (arith, c.loop-v-test.false, c.loop-v.auto.v-end, c.op_count-v-end.ensures.value) in
    c.loop-v.invariant ∙ ap (λ n. fold (with_pairs c.args.plant.now) [] (range_with_len 0 n)) all

pub returns-clause-value : goal.returns-clause-value
returns-clause-value c = whole c

pub returns-clause-cliques : goal.returns-clause-cliques
returns-clause-cliques c = subst (All (IsClique c.args.plant.now)) (sym (whole c)) (each_is_clique c.args.plant.now)

pub returns-clause-covered : goal.returns-clause-covered
returns-clause-covered c = subst (IsCover c.args.plant.now) (sym (whole c)) (each_pair_is_covered c.args.plant.now)
