use Rattle.std.proofs.Common.{◌∙◌, ap, map}
use Rattle.std.proofs.lemmas.List.{take_all}
use Rattle.plant_model.specs.Parts.{ops_of, resolved}
use Rattle.plant_model.proofs.making.resolve_all.Goals as goal

pub returns : goal.returns
unfolding ops_of
returns c =
    c.loop-operation.invariant
    ∙ ap (map (resolved c.args.parts.now))
    (take_all c.loop-operation.operation-index c.as_slice-operation-items.result.now c.loop-operation-test.false ∙ c.as_slice-operation-items.ensures)
