use Rattle.plant_model.proofs.PlaceNames.{first_place}
use Rattle.plant_model.proofs.named.place_by_name.Goals as goal

pub returns : goal.returns
returns c =
    first_place c.args.parts.now c.args.name.now _ _ _ _ _ _ _ _ _ _ _
    c.as_slice-vessels.ensures c.as_slice-storage.ensures c.as_slice-charging.ensures c.as_slice-units.ensures
    c.first_named.ensures.value c.first_named-2.ensures.value c.first_named-3.ensures.value c.first_named-4.ensures.value
    c.first_in_both-in_storage.ensures c.first_in_both-in_charging.ensures c.first_in_both.ensures
