use Rattle.std.proofs.Common.{arith, rules, FitsSigned}
use Rattle.std.proofs.lemmas.Int.{unsigned_abs-mul, to_z-of_z}
use Rattle.std.specs.Int.{w64}
use Rattle.blend_cuts.specs.Cuts.{weight_of}
use Rattle.blend_cuts.proofs.ValidLaws.{valid_cut}
use Rattle.blend_cuts.proofs.SizeLaws.{weighted-small}
use Rattle.blend_cuts.proofs.excess.scaled_weight.Goals as goal

pub product-requires : goal.product-requires
product-requires c =
    let is = valid_cut c.args.plant.now c.args.cut.now c.sound.ensures.plant c.requires.valid in
    let small = weighted-small c.args.plant.now c.args.cut.now c.args.c is c.requires.crude in
    let size = unsigned_abs-mul c.args.cut.now.q (weight_of c.args.cut.now c.args.c) in
    let q_fits : FitsSigned w64 c.args.cut.now.q = search rules in
    let weight_fits : FitsSigned w64 c.weight.result = search rules in
    rw (to_z-of_z w64 c.args.cut.now.q q_fits, to_z-of_z w64 c.weight.result weight_fits, c.weight.ensures) (omega (arith, small, size))
