use Rattle.std.proofs.Common.{rules, length, ◌≡◌, pos, slice_index_or, to_z, arith}
use Rattle.std.specs.Int.{w128}
use Rattle.linear_form.specs.Bounds.{zero_alone}
use Rattle.number_laws.specs.SignedSums.{total_below}
use Rattle.dual_bound.specs.Dual.{most_in}
use Rattle.dual_bound.proofs.EarnedLaws.{part-size}
use Rattle.dual_bound.proofs.StoredNumbers.{read-mag}
use Rattle.dual_bound.proofs.earned.most_of_all.Goals as goal

pub plus-sum-requires : goal.plus-sum-requires
plus-sum-requires c =
    let sum : to_z w128 c.loop-k.sum-bits
    ≡ total_below c.loop-k.k (λ i. most_in (slice_index_or c.args.ranges.now i zero_alone) (slice_index_or c.args.weights.now i (pos 0))) =
    c.loop-k.invariant in
    let size = part-size c.args.ranges.now c.args.weights.now c.loop-k.k c.requires.room (omega arith) in
    let more = read-mag c.most_in.result c.most_in.type_inv in
    rw (sum, more) (omega (arith, size, c.most_in.ensures.size, c.requires.few, c.loop-k-test.true))

pub returns-clause-size : goal.returns-clause-size
returns-clause-size c =
    let value : to_z w128 c.loop-k.sum-bits
    ≡ total_below (length c.args.ranges.now) (λ i. most_in (slice_index_or c.args.ranges.now i zero_alone) (slice_index_or c.args.weights.now i (pos 0))) =
    search rules in
    rw value (part-size c.args.ranges.now c.args.weights.now (length c.args.ranges.now) c.requires.room (omega arith))
