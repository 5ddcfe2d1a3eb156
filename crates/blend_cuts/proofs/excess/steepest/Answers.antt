use Rattle.std.proofs.Common.{◌≡◌, ap, ◌∙◌, arith}
use Rattle.number_laws.specs.Positive.{positive_part}
use Rattle.plant_model.specs.Parts.{crude_count_of}
use Rattle.blend_cuts.specs.Excess.{rise_of, greatest_below, steepest_of}
use Rattle.blend_cuts.proofs.ValidLaws.{valid_cut}
use Rattle.blend_cuts.proofs.SizeLaws.{steepest-most}
use Rattle.blend_cuts.proofs.excess.steepest.Goals as goal

whole : (c : goal.After-loop-c) → c.loop-c.most ≡ steepest_of c.args.plant.now c.args.cut.now
unfolding steepest_of
whole c =
    let all : c.loop-c.c ≡ crude_count_of c.args.plant.now = omega (arith, c.loop-c-test.false, c.loop-c.auto.c-end, c.crude_count-c-end.ensures.value) in
    c.loop-c.invariant ∙ ap (λ n. greatest_below n (λ k. positive_part (rise_of c.args.cut.now k))) all

pub returns-clause-value : goal.returns-clause-value
returns-clause-value c = whole c

pub returns-clause-most : goal.returns-clause-most
returns-clause-most c =
    let most = steepest-most c.args.plant.now c.args.cut.now (valid_cut c.args.plant.now c.args.cut.now c.sound.ensures.plant c.requires.valid) in
    let is = whole c in
    omega (arith, most, is)
