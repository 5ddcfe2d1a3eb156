use Rattle.std.proofs.Common.{◌≡◌, ◌∙◌, ap, List, map, length}
use Rattle.std.proofs.lemmas.List.{length-map, take_at}
use Rattle.plant_model.specs.declared.parts.TankPart.{TankPart}
use Rattle.plant_model.specs.Parts.{seen_parts, without_demand}
use Rattle.plant_model.proofs.making.without_storage_demand.Goals as goal

pub returns : goal.returns
unfolding seen_parts
returns c =
    let written : c.clear_demands.new.tanks ≡ map without_demand c.args.parts.storage =
    c.clear_demands.ensures ∙ ap (map without_demand) c.as_mut_slice.ensures.value in
    let count : length c.clear_demands.new.tanks ≡ length c.args.parts.storage = ap length written ∙ length-map c.args.parts.storage without_demand in
    ap (λ (storage : List TankPart). record c.args.parts { storage = storage })
    (take_at c.clear_demands.new.tanks _ (length c.args.parts.storage) count ∙ written)
