use Rattle.std.proofs.Common.{◌≡◌, ◌++◌, ◌∷◌, [], map, length, ap, sym, subst, ◌∙◌, arith}
use Rattle.std.specs.List.{range_with_len}
use Rattle.std.proofs.lemmas.List.FromFn.{map-range_with_len_more}
use Rattle.plant_model.specs.Parts.{op_count_of}
use Rattle.overlap_graph.specs.Independence.{independent_mask_of, independence_of, AreIndependentSets}
use Rattle.overlap_graph.proofs.GraphLaws.{independent_sets}
use Rattle.overlap_graph.proofs.masks.independence.Goals as goal

pub loop-v-preserved : goal.loop-v-preserved
loop-v-preserved c =
    let mask = independent_mask_of c.args.plant.now in
    c.in_ok-push_mask.ensures ∙ ap (λ xs. xs ++ c.independent_mask.result ∷ []) c.loop-v.invariant
    ∙ ap (λ x. map mask (range_with_len 0 c.loop-v.v) ++ x ∷ []) c.independent_mask.ensures.value
    ∙ sym (map-range_with_len_more mask 0 c.loop-v.v c.loop-v.v (omega arith))

whole : (c : goal.After-loop-v) → c.loop-v.masks ≡ independence_of c.args.plant.now
unfolding independence_of
whole c =
    let all : c.loop-v.v ≡ op_count_of c.args.plant.now =
    omega (arith, c.loop-v-test.false, c.loop-v.auto.v-end, c.op_count-v-end.ensures.value) in
    c.loop-v.invariant ∙ ap (λ n. map (independent_mask_of c.args.plant.now) (range_with_len 0 n)) all

pub returns-clause-value : goal.returns-clause-value
returns-clause-value c = whole c

pub returns-clause-members : goal.returns-clause-members
returns-clause-members c = subst (AreIndependentSets c.args.plant.now) (sym (whole c)) (independent_sets c.args.plant.now)

pub returns-clause-few : goal.returns-clause-few
returns-clause-few c =
    let count = ap length (whole c) ∙ (independent_sets c.args.plant.now).count in
    omega (arith, count, c.op_count-v-end.ensures.value, c.op_count-v-end.ensures.most)
