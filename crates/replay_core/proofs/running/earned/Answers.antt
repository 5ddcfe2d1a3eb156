use Rattle.std.proofs.Common.{◌≡◌, pos, if◌then◌else◌, sym, ap, ◌∙◌, arith, to_z, of_z, w64}
use Rattle.std.proofs.lemmas.Int.{ints}
use Rattle.crude_amounts.specs.Amounts.{weighted_of}
use Rattle.plant_model.specs.Relations.{is_charge}
use Rattle.replay_core.proofs.MarginLaws.{weighted_of-low, weighted_of-high}
use Rattle.replay_core.proofs.running.earned.Goals as goal
use mir.Syntax.{w128}

pub overflow_cast-result : goal.overflow_cast-result
overflow_cast-result c =
    let low = weighted_of-low 1000000 c.args.drawn.now c.args.margins.now c.requires.small in
    let high = weighted_of-high 1000000 c.args.drawn.now c.args.margins.now c.requires.small in
    omega (arith, ints)

pub returns-in-Charge : goal.returns-in-Charge
returns-in-Charge c =
    let low = weighted_of-low 1000000 c.args.drawn.now c.args.margins.now c.requires.small in
    let high = weighted_of-high 1000000 c.args.drawn.now c.args.margins.now c.requires.small in
    let weighed = weighted_of c.args.drawn.now c.args.margins.now in
    let value : to_z w64 (of_z w64 (to_z w128 (of_z w128 c.weighted.result))) ≡ weighed = omega (arith, ints) in
    value ∙ ap (λ kind. if is_charge kind then weighed else pos 0) (sym c.in-Charge.is)
