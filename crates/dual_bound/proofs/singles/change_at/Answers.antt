use Rattle.std.proofs.Common.{◌≡◌, ◌≤◌, ◌^◌, ◌*◌, ◌-ℤ◌, ◌*ℤ◌, pos, ◌∙◌, unsigned_abs, arith}
use Rattle.dual_bound.specs.Conditions.{reach_of}
use Rattle.dual_bound.proofs.RoomLaws.{times-limit, difference-limit}
use Rattle.dual_bound.proofs.StoredNumbers.{read-mag, read-small}
use Rattle.dual_bound.proofs.singles.change_at.Goals as goal

pub most_in-requires : goal.most_in-requires
most_in-requires c =
    let times = read-mag c.from.result c.from.type_inv ∙ c.from.ensures in
    let factor = read-small c.args.factor c.ranges.factor in
    let taken : c.scaled.result ≡ pos c.args.y *ℤ c.args.factor = rw (times, factor) at c.scaled.ensures.value in
    let weight = read-mag c.args.weight c.ranges.weight.sfits in
    let part = read-mag c.scaled.result c.scaled.type_inv in
    let less : c.minus-less.result ≡ c.args.weight -ℤ (pos c.args.y *ℤ c.args.factor) = rw (weight, part, taken) at c.minus-less.ensures in
    let small : unsigned_abs c.args.factor * reach_of c.args.range ≤ 2 ^ 60 = omega (arith, c.requires.small) in
    let limit = difference-limit c.args.weight (pos c.args.y *ℤ c.args.factor) (reach_of c.args.range) (2 ^ 103) (2 ^ 32 * 2 ^ 60) c.requires.room
    (times-limit c.args.y c.args.factor (reach_of c.args.range) c.requires.few small) in
    rw (read-mag c.minus-less.result c.minus-less.type_inv, less) (omega (arith, limit))
