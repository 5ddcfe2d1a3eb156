use Rattle.std.proofs.Common.{◌≡◌, ◌*◌, ◌^◌, ◌≤◌, ◌*ℤ◌, unsigned_abs, to_z, of_z, ◌∙◌, arith}
use Rattle.std.specs.Int.{w128}
use Rattle.dual_bound.proofs.StoredNumbers.{read-within, read-mag, read-small, abs-small, abs-product}
use Rattle.dual_bound.proofs.signed.scaled.Goals as goal

value_of : (c : goal.After-from) → to_z w128 (of_z w128 (to_z w128 (of_z w128 c.args.times) *ℤ to_z w128 (of_z w128 c.from.result)))
    ≡ c.args.times *ℤ c.args.factor
value_of c =
    let times : to_z w128 (of_z w128 c.args.times) ≡ c.args.times = read-mag c.args.times c.ranges.times.sfits in
    let from : to_z w128 (of_z w128 c.from.result) ≡ c.from.result = read-mag c.from.result c.from.type_inv in
    let factor : c.from.result ≡ c.args.factor = c.from.ensures ∙ read-small c.args.factor c.ranges.factor in
    let size : unsigned_abs (c.args.times *ℤ c.args.factor) ≤ 2 ^ 32 * 2 ^ 63 =
    abs-product c.args.times c.args.factor (2 ^ 32) (2 ^ 63) c.requires (abs-small c.args.factor c.ranges.factor) in
    rw (times, from, factor) (read-within (c.args.times *ℤ c.args.factor) (2 ^ 32 * 2 ^ 63) size (omega arith))

pub returns-clause-value : goal.returns-clause-value
returns-clause-value c = value_of c

pub returns-clause-size : goal.returns-clause-size
returns-clause-size c = rw (value_of c) (abs-product c.args.times c.args.factor (2 ^ 32) (2 ^ 63) c.requires (abs-small c.args.factor c.ranges.factor))
