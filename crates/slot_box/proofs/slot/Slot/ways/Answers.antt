use Rattle.std.proofs.Common.{◌≤◌, arith}
use Rattle.std.proofs.lemmas.Nat.{ones-le}
use Rattle.slot_box.proofs.SlotLaws.{product_fits}
use Rattle.slot_box.proofs.slot.Slot.ways.Goals as goal

pub overflow_mul-runs-3 : goal.overflow_mul-runs-3
overflow_mul-runs-3 c =
    let few : c.from.result ≤ 64 = omega (arith, ones-le 63 c.operations.result (omega arith)) in
    let fits = product_fits c.from.result c.size.result c.size-2.result c.size-3.result few (omega arith) (omega arith) (omega arith) in
    omega (arith, fits)

pub overflow_add-result : goal.overflow_add-result
overflow_add-result c =
    let few : c.from.result ≤ 64 = omega (arith, ones-le 63 c.operations.result (omega arith)) in
    let fits = product_fits c.from.result c.size.result c.size-2.result c.size-3.result few (omega arith) (omega arith) (omega arith) in
    omega (arith, fits)
