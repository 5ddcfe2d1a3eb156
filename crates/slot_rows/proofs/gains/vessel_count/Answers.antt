use Rattle.std.proofs.Common.{ap, arith, length}
use Rattle.plant_model.specs.declared.parts.Parts.{Parts}
use Rattle.plant_model.specs.Parts.{place_count_of}
use Rattle.slot_rows.proofs.gains.vessel_count.Goals as goal

pub overflow_cast-result : goal.overflow_cast-result
unfolding place_count_of
overflow_cast-result c =
    let most = c.sound.ensures.plant.places in
    let count = ap length c.as_slice.ensures in
    let parts = ap (λ (parts : Parts). length parts.vessels) c.as_parts.ensures in
    omega (arith, most, count, parts)

pub returns-clause-most : goal.returns-clause-most
unfolding place_count_of
returns-clause-most c =
    let most = c.sound.ensures.plant.places in
    let count = ap length c.as_slice.ensures in
    let parts = ap (λ (parts : Parts). length parts.vessels) c.as_parts.ensures in
    omega (arith, most, count, parts)
