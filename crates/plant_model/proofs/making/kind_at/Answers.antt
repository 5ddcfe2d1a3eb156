use Rattle.std.proofs.Common.{rules, ap, sym, ◌∙◌}
use Rattle.plant_model.specs.declared.details.PlaceInfo.{PlaceInfo}
use Rattle.plant_model.specs.inside.PlaceParts.{IsPartAt}
use Rattle.plant_model.proofs.PlaceLists.{kind_of_info, place_of_part}
use Rattle.plant_model.proofs.making.kind_at.Goals as goal

pub returns : goal.returns
returns c =
    let at : IsPartAt c.args.parts.now c.args.number c.unwrap.result = search rules in
    c.kind.ensures ∙ sym (ap (λ (place : PlaceInfo). place.kind) (place_of_part c.args.parts.now c.args.number c.unwrap.result at)
    ∙ kind_of_info c.unwrap.result)
