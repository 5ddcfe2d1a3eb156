use Rattle.std.proofs.Common.{◌≡◌, ap, ◌∙◌, arith}
use Rattle.number_laws.specs.Sums.{sum_below}
use Rattle.plant_model.specs.Parts.{place_count_of}
use Rattle.blend_cuts.specs.Excess.{place_excess_of, first_excess_of}
use Rattle.blend_cuts.proofs.excess.first_excess.Goals as goal

pub returns-clause-value : goal.returns-clause-value
unfolding first_excess_of
returns-clause-value c =
    let all : c.loop-p.p ≡ place_count_of c.args.plant.now = omega (arith, c.loop-p-test.false, c.loop-p.auto.p-end, c.place_count-p-end.ensures.value) in
    c.loop-p.invariant.done ∙ ap (λ n. sum_below n (place_excess_of c.args.plant.now c.args.cut.now)) all
