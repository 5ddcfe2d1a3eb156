use Rattle.std.proofs.Common.{◌≡◌, ◌-ℤ◌, unsigned_abs, ap, ◌∙◌, arith, rules, to_z, of_z, FitsSigned}
use Rattle.std.proofs.lemmas.Int.{ints}
use Rattle.std.specs.Int.{w64}
use Rattle.blend_cuts.specs.Excess.{rise_of}
use Rattle.blend_cuts.proofs.ValidLaws.{valid_cut}
use Rattle.blend_cuts.proofs.SizeLaws.{rise-small, weighted-small, stored-difference}
use Rattle.blend_cuts.proofs.excess.rise.Goals as goal

pub overflow_sub-result : goal.overflow_sub-result
overflow_sub-result c =
    let is = valid_cut c.args.plant.now c.args.cut.now c.sound.ensures.plant c.requires.valid in
    let threshold = is.threshold in
    let small = weighted-small c.args.plant.now c.args.cut.now c.args.c is c.requires.crude in
    let same = ap unsigned_abs c.scaled_weight.ensures in
    omega (arith, ints, small, same, threshold)

value : (c : goal.After-result-1) →
    to_z w64 (of_z w64 (to_z w64 (of_z w64 c.scaled_weight.result) -ℤ to_z w64 (of_z w64 c.args.cut.now.p))) ≡ rise_of c.args.cut.now c.args.c
value c =
    let is = valid_cut c.args.plant.now c.args.cut.now c.sound.ensures.plant c.requires.valid in
    let threshold = is.threshold in
    let small = weighted-small c.args.plant.now c.args.cut.now c.args.c is c.requires.crude in
    let same = ap unsigned_abs c.scaled_weight.ensures in
    let weight_fits : FitsSigned w64 c.scaled_weight.result = search rules in
    let p_fits : FitsSigned w64 c.args.cut.now.p = search rules in
    stored-difference c.scaled_weight.result c.args.cut.now.p weight_fits p_fits (omega (arith, small, same)) (omega (arith, threshold))
    ∙ ap (λ z. z -ℤ c.args.cut.now.p) c.scaled_weight.ensures

pub returns-clause-value : goal.returns-clause-value
returns-clause-value c = value c

pub returns-clause-small : goal.returns-clause-small
returns-clause-small c =
    let is = valid_cut c.args.plant.now c.args.cut.now c.sound.ensures.plant c.requires.valid in
    let small = rise-small c.args.plant.now c.args.cut.now c.args.c is c.requires.crude in
    rw (value c) small
