use Rattle.std.proofs.Common.{◌≡◌, ◌+◌, ◌-ℤ◌, unsigned_abs, ap, ◌∙◌, arith, rules, FitsSigned}
use Rattle.std.proofs.lemmas.Int.{ints}
use Rattle.std.specs.Int.{w64}
use Rattle.blend_cuts.specs.Cuts.{weight_of}
use Rattle.blend_cuts.proofs.ValidLaws.{valid_cut}
use Rattle.blend_cuts.proofs.SizeLaws.{weight-step-most, stored-difference}
use Rattle.blend_cuts.proofs.excess.weight_step.Goals as goal

pub overflow_sub-weight : goal.overflow_sub-weight
overflow_sub-weight c =
    let is = valid_cut c.args.plant.now c.args.cut.now c.sound.ensures.plant c.requires.valid in
    let next = is.weights (c.args.c + 1) c.requires.crudes in
    let this = is.weights c.args.c (omega arith) in
    let next_is = ap unsigned_abs c.weight.ensures in
    let this_is = ap unsigned_abs c.weight-2.ensures in
    omega (arith, ints, next, this, next_is, this_is)

value : (c : goal.After-unsigned_abs) → c.unsigned_abs.result ≡ unsigned_abs (weight_of c.args.cut.now (c.args.c + 1) -ℤ weight_of c.args.cut.now c.args.c)
value c =
    let is = valid_cut c.args.plant.now c.args.cut.now c.sound.ensures.plant c.requires.valid in
    let next = is.weights (c.args.c + 1) c.requires.crudes in
    let this = is.weights c.args.c (omega arith) in
    let next_is = ap unsigned_abs c.weight.ensures in
    let this_is = ap unsigned_abs c.weight-2.ensures in
    let next_fits : FitsSigned w64 c.weight.result = search rules in
    let this_fits : FitsSigned w64 c.weight-2.result = search rules in
    let read = stored-difference c.weight.result c.weight-2.result next_fits this_fits (omega (arith, next, next_is)) (omega (arith, this, this_is)) in
    c.unsigned_abs.ensures.value ∙ ap unsigned_abs read ∙ ap (λ z. unsigned_abs (z -ℤ c.weight-2.result)) c.weight.ensures
    ∙ ap (λ z. unsigned_abs (weight_of c.args.cut.now (c.args.c + 1) -ℤ z)) c.weight-2.ensures

pub returns-clause-value : goal.returns-clause-value
returns-clause-value c = value c

pub returns-clause-most : goal.returns-clause-most
returns-clause-most c =
    let is = valid_cut c.args.plant.now c.args.cut.now c.sound.ensures.plant c.requires.valid in
    let most = weight-step-most c.args.plant.now c.args.cut.now c.args.c is c.requires.crudes in
    let same = value c in
    omega (arith, most, same)
