use Rattle.std.proofs.Common.{ap, arith, length}
use Rattle.plant_model.specs.declared.parts.Parts.{Parts}
use Rattle.plant_model.proofs.PlaceLists.{vessels-few}
use Rattle.row_forms.proofs.terms.vessel_count.Goals as goal

pub overflow_cast-result : goal.overflow_cast-result
overflow_cast-result c =
    let most = c.sound.ensures.plant.places in
    let count = ap length c.as_slice.ensures in
    let parts = ap (λ (parts : Parts). length parts.vessels) c.as_parts.ensures in
    let few = vessels-few c.args.plant.now in
    omega (arith, most, few, count, parts)
