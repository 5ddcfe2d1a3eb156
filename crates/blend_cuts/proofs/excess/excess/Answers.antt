use Rattle.std.proofs.Common.{◌≡◌, ◌*ℤ◌, pos, ap, ◌∙◌, arith, rules, to_z, FitsSigned}
use Rattle.std.proofs.lemmas.Int.{ints, to_z-of_z}
use Rattle.std.specs.Int.{w64}
use Rattle.number_laws.proofs.SignedSumLaws.{abs-sum}
use Rattle.plant_model.specs.Parts.{initial_of}
use Rattle.blend_cuts.specs.Excess.{rise_of}
use Rattle.blend_cuts.proofs.SizeLaws.{excess-next}
use Rattle.blend_cuts.proofs.excess.excess.Goals as goal

pub loop-c-preserved : goal.loop-c-preserved
loop-c-preserved c =
    let fits : FitsSigned w64 c.rise.result = search rules in
    let read = to_z-of_z w64 c.rise.result fits in
    let product : c.weighed-sum.result ≡ rise_of c.args.cut.now c.loop-c.c *ℤ pos (initial_of c.args.plant.now c.args.p c.loop-c.c) =
    c.weighed-sum.ensures.value ∙ ap (λ z. z *ℤ pos c.initial.result) (read ∙ c.rise.ensures.value)
    ∙ ap (λ n. rise_of c.args.cut.now c.loop-c.c *ℤ pos n) c.initial.ensures.value in
    let next = excess-next c.args.plant.now c.args.cut.now c.args.p c.loop-c.c (to_z w64 c.loop-c.sum-bits) c.weighed-sum.result c.loop-c.invariant.done product in
    let size = abs-sum (to_z w64 c.loop-c.sum-bits) c.weighed-sum.result in
    record { done = omega (arith, ints, next); small = omega (arith, ints, size, c.loop-c.invariant.small, c.weighed-sum.ensures.small) }
