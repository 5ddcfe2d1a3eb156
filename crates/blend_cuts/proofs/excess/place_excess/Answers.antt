use Rattle.std.proofs.Common.{◌≡◌, true, sym, ap, ◌∙◌, arith, rules, Bool, FitsSigned}
use Rattle.std.proofs.lemmas.Int.{to_z-of_z}
use Rattle.std.specs.Int.{w64}
use Rattle.number_laws.specs.Positive.{positive_part}
use Rattle.number_laws.specs.Sums.{when}
use Rattle.plant_model.specs.Parts.{place_of, initial_amounts_of}
use Rattle.replay_core.proofs.StateLaws.{holds_crude}
use Rattle.blend_cuts.specs.Cuts.{is_inside}
use Rattle.blend_cuts.specs.Excess.{excess_of}
use Rattle.blend_cuts.proofs.ValidLaws.{valid_cut}
use Rattle.blend_cuts.proofs.SizeLaws.{place-excess-most}
use Rattle.blend_cuts.proofs.excess.place_excess.Goals as goal

pub excess-requires-clause-holds : goal.excess-requires-clause-holds
excess-requires-clause-holds c =
    let is = valid_cut c.args.plant.now c.args.cut.now c.sound.ensures.plant c.requires.valid in
    let inside : is_inside c.args.cut.now c.args.p ≡ true = sym c.is_inside.ensures ∙ c.if-is_inside.true in
    holds_crude (place_of c.args.plant.now c.args.p).kind (is.stock c.args.p c.requires.place inside)

pub returns-then-is_inside-clause-most : goal.returns-then-is_inside-clause-most
returns-then-is_inside-clause-most c =
    let is = valid_cut c.args.plant.now c.args.cut.now c.sound.ensures.plant c.requires.valid in
    let inside : is_inside c.args.cut.now c.args.p ≡ true = sym c.is_inside.ensures ∙ c.if-is_inside.true in
    let most = place-excess-most c.args.plant.now c.args.cut.now c.args.p c.sound.ensures.plant is c.requires.place in
    let fits : FitsSigned w64 c.excess.result = search rules in
    let value = c.positive_part.ensures.value ∙ ap positive_part (to_z-of_z w64 c.excess.result fits ∙ c.excess.ensures) in
    let at = ap (λ (b : Bool). when b (positive_part (excess_of c.args.plant.now c.args.cut.now (initial_amounts_of c.args.plant.now c.args.p)))) inside in
    omega (arith, most, value, at)
