use Rattle.std.proofs.Common.{rules, ◌≡◌, ◌+◌, ◌-◌, ◌≤◌, ◌∙◌, length, arith}
use Rattle.dual_bound.specs.inside.Systems.{column_count}
use Rattle.dual_bound.proofs.RoomLaws.{block-room, block-value}
use Rattle.dual_bound.proofs.StoredNumbers.{read-mag}
use Rattle.dual_bound.proofs.sums.block_sum.Goals as goal

pub most_of_all-requires-clause-room : goal.most_of_all-requires-clause-room
most_of_all-requires-clause-room c =
    let there : c.args.from + (c.args.to - c.args.from) ≤ column_count c.args.system.now = omega (arith, c.requires.order, c.requires.there) in
    let as_many : length c.weigh.new.cells ≡ c.args.to - c.args.from = search rules in
    rw c.ends.ensures.value
    (block-room c.args.system.now.rows.now c.args.system.now.ranges.now c.args.system.now.objective.now c.args.multipliers.now c.args.q c.args.from
    (c.args.to - c.args.from) c.weigh.new.cells c.requires.whole.sums c.requires.whole.objective
    c.requires.guess c.requires.once there as_many c.weigh.ensures.weights)

pub returns-clause-value : goal.returns-clause-value
returns-clause-value c =
    let there : c.args.from + (c.args.to - c.args.from) ≤ column_count c.args.system.now = omega (arith, c.requires.order, c.requires.there) in
    let as_many : length c.weigh.new.cells ≡ c.args.to - c.args.from = search rules in
    read-mag c.most_of_all.result c.most_of_all.type_inv
    ∙ ((rw c.ends.ensures.value at c.most_of_all.ensures.value)
    ∙ block-value c.args.system.now.rows.now c.args.system.now.ranges.now c.args.system.now.objective.now c.args.multipliers.now c.args.q c.args.from
    (c.args.to - c.args.from) c.weigh.new.cells there as_many c.weigh.ensures.weights)
