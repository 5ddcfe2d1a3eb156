use Rattle.std.proofs.Common.{◌≡◌, ◌++◌, ◌∷◌, [], map, ap, sym, ◌∙◌, arith}
use Rattle.std.specs.List.{range_with_len}
use Rattle.std.proofs.lemmas.List.FromFn.{map-range_with_len_more}
use Rattle.plant_model.specs.Parts.{op_count_of}
use Rattle.overlap_graph.specs.Cliques.{refused_mask_of, refused_masks_of}
use Rattle.overlap_graph.proofs.cover.refused_masks.Goals as goal

pub loop-v-preserved : goal.loop-v-preserved
loop-v-preserved c =
    let mask = refused_mask_of c.args.plant.now in
    c.in_ok-push_mask.ensures ∙ ap (λ xs. xs ++ c.refused_mask.result ∷ []) c.loop-v.invariant
    ∙ ap (λ x. map mask (range_with_len 0 c.loop-v.v) ++ x ∷ []) c.refused_mask.ensures
    ∙ sym (map-range_with_len_more mask 0 c.loop-v.v c.loop-v.v (omega arith))

pub returns : goal.returns
unfolding refused_masks_of
returns c =
    let all : c.loop-v.v ≡ op_count_of c.args.plant.now =
    omega (arith, c.loop-v-test.false, c.loop-v.auto.v-end, c.op_count-v-end.ensures.value) in
    record { value = c.loop-v.invariant ∙ ap (λ n. map (refused_mask_of c.args.plant.now) (range_with_len 0 n)) all }
