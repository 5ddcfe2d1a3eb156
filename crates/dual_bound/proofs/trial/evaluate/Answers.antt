use Rattle.std.proofs.Common.{rules, ◌≡◌, length, ◌∙◌}
use Rattle.dual_bound.specs.inside.Systems.{column_count, weight_in}
use Rattle.dual_bound.proofs.RoomLaws.{hold-from_zero, whole-room, less-room, whole-value}
use Rattle.dual_bound.proofs.StoredNumbers.{read-mag}
use Rattle.dual_bound.proofs.trial.evaluate.Goals as goal

pub most_of_all-requires-clause-room : goal.most_of_all-requires-clause-room
most_of_all-requires-clause-room c =
    let held = hold-from_zero (weight_in c.args.system.now c.args.multipliers.now c.args.q) c.weigh.new.cells c.weigh.ensures.weights in
    let as_many : length c.weigh.new.cells ≡ column_count c.args.system.now = search rules in
    rw c.ends.ensures.value
    (less-room c.args.system.now.ranges.now.ends c.weigh.new.cells
    (whole-room c.args.system.now.rows.now c.args.system.now.ranges.now c.args.system.now.objective.now c.args.multipliers.now c.args.q c.weigh.new.cells
    c.requires.whole.sums c.requires.whole.objective c.requires.guess
    c.right_sum-rights.ensures.once as_many held))

pub returns-clause-weights : goal.returns-clause-weights
returns-clause-weights c =
    let held = hold-from_zero (weight_in c.args.system.now c.args.multipliers.now c.args.q) c.weigh.new.cells c.weigh.ensures.weights in
    let as_many : length c.weigh.new.cells ≡ column_count c.args.system.now = search rules in
    record {
      as_many = as_many;
      held = held;
      within = c.weigh.ensures.within;
      room = whole-room c.args.system.now.rows.now c.args.system.now.ranges.now c.args.system.now.objective.now c.args.multipliers.now c.args.q
          c.weigh.new.cells c.requires.whole.sums c.requires.whole.objective c.requires.guess
          c.right_sum-rights.ensures.once as_many held;
    }

pub returns-clause-value : goal.returns-clause-value
returns-clause-value c =
    let held = hold-from_zero (weight_in c.args.system.now c.args.multipliers.now c.args.q) c.weigh.new.cells c.weigh.ensures.weights in
    let as_many : length c.weigh.new.cells ≡ column_count c.args.system.now = search rules in
    let rights = read-mag c.right_sum-rights.result c.right_sum-rights.type_inv ∙ c.right_sum-rights.ensures.value in
    let parts = read-mag c.most_of_all.result c.most_of_all.type_inv ∙ ((rw c.ends.ensures.value at c.most_of_all.ensures.value)
    ∙ whole-value c.args.system.now.rows.now c.args.system.now.ranges.now c.args.system.now.objective.now c.args.multipliers.now c.args.q c.weigh.new.cells
    c.ends.ensures.count as_many held) in
    read-mag c.plus.result c.plus.type_inv ∙ (rw (rights, parts) at c.plus.ensures)
