use Rattle.std.proofs.Common.{Some, ap, sym, map, ◌∙◌}
use Rattle.std.specs.List.{slice_get}
use Rattle.plant_model.specs.declared.details.PlaceInfo.{PlaceInfo}
use Rattle.plant_model.specs.Parts.{kind_named, places_of}
use Rattle.plant_model.proofs.PlaceLists.{kind_at_part, kind_past, part_within}
use Rattle.plant_model.proofs.faults.operations.kind_named.Goals as goal

pub returns-in-Some : goal.returns-in-Some
unfolding kind_named
returns-in-Some c =
    let within = part_within c.args.parts.now c.place_by_name.result c.in-Some.part c.in-Some.ensures in
    ap Some c.kind.ensures
    ∙ sym (kind_at_part c.args.parts.now c.place_by_name.result c.in-Some.part c.in-Some.ensures within)
    ∙ ap (λ p. slice_get (map (λ (place : PlaceInfo). place.kind) (places_of c.args.parts.now)) p) c.place_by_name.ensures

pub returns-in-None : goal.returns-in-None
unfolding kind_named
returns-in-None c =
    sym (kind_past c.args.parts.now c.place_by_name.result c.in-None.ensures)
    ∙ ap (λ p. slice_get (map (λ (place : PlaceInfo). place.kind) (places_of c.args.parts.now)) p) c.place_by_name.ensures
