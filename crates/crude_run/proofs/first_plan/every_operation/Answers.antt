use Rattle.std.proofs.Common.{◌<◌, ◌++◌, ◌∷◌, [], List, ℕ, sym, ap, ◌∙◌, arith}
use Rattle.std.proofs.lemmas.Grind.{common_steps}
use Rattle.std.proofs.lemmas.List.Elements.{All-append}
use Rattle.plant_model.specs.Parts.{op_count_of}
use Rattle.crude_run.proofs.HintLaws.{range-more}
use Rattle.crude_run.proofs.first_plan.every_operation.Goals as goal

pub loop-v-preserved : goal.loop-v-preserved
loop-v-preserved c = record {
  so_far = c.in_ok-push.ensures.items
      ∙ (ap (λ (xs : List ℕ). xs ++ c.loop-v.v ∷ []) c.loop-v.invariant.so_far ∙ sym (range-more c.loop-v.v));
  known = rw c.in_ok-push.ensures.items
      (All-append (λ v. v < op_count_of c.args.plant.now) c.loop-v.ops.items (c.loop-v.v ∷ []) c.loop-v.invariant.known
      (grind (arith, common_steps, c.loop-v-test.true)));
}
