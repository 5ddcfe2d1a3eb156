use Rattle.std.proofs.Common.{◌≡◌, ◌*◌, unsigned_abs, ap, ◌∙◌, arith, rules, FitsSigned}
use Rattle.std.proofs.lemmas.Int.{to_z-of_z}
use Rattle.std.specs.Int.{w64}
use Rattle.plant_model.specs.Parts.{natural}
use Rattle.blend_cuts.specs.Excess.{drift_of}
use Rattle.blend_cuts.proofs.ValidLaws.{valid_cut}
use Rattle.blend_cuts.proofs.SizeLaws.{drift-most}
use Rattle.blend_cuts.proofs.excess.drift.Goals as goal

value : (c : goal.After-weight_variation) → c.unsigned_abs.result * c.weight_variation.result ≡ drift_of c.args.plant.now c.args.cut.now
unfolding drift_of
value c =
    let is = valid_cut c.args.plant.now c.args.cut.now c.sound.ensures.plant c.requires.valid in
    let fits : FitsSigned w64 c.args.cut.now.q = search rules in
    let q : c.unsigned_abs.result ≡ natural c.args.cut.now.q =
    c.unsigned_abs.ensures.value ∙ ap unsigned_abs (to_z-of_z w64 c.args.cut.now.q fits ∙ is.q) in
    ap (λ n. n * c.weight_variation.result) q ∙ ap (λ n. natural c.args.cut.now.q * n) c.weight_variation.ensures.value

pub overflow_mul-result : goal.overflow_mul-result
overflow_mul-result c =
    let most = drift-most c.args.plant.now c.args.cut.now c.sound.ensures.plant (valid_cut c.args.plant.now c.args.cut.now c.sound.ensures.plant c.requires.valid) in
    let is = value c in
    omega (arith, most, is)

pub returns-clause-value : goal.returns-clause-value
returns-clause-value c = value c

pub returns-clause-most : goal.returns-clause-most
returns-clause-most c =
    let most = drift-most c.args.plant.now c.args.cut.now c.sound.ensures.plant (valid_cut c.args.plant.now c.args.cut.now c.sound.ensures.plant c.requires.valid) in
    let is = value c in
    omega (arith, most, is)
