use Rattle.std.proofs.Common.{rules, ◌≡◌, to_z, of_z, arith}
use Rattle.std.specs.Int.{w128}
use Rattle.dual_bound.specs.Dual.{dual_value}
use Rattle.dual_bound.proofs.DualLaws.{value-bounds_points, value-bounds_narrower}
use Rattle.dual_bound.proofs.duality.bound.Goals as goal

pub returns-clause-points : goal.returns-clause-points
returns-clause-points c =
    let value : to_z w128 (of_z w128 c.div_euclid.result)
    ≡ dual_value c.args.rows.now c.args.ranges.now c.args.objective.now c.args.guess.now.y c.args.guess.now.q = search rules in
    rw value
    (value-bounds_points c.args.rows.now c.args.ranges.now c.args.objective.now c.args.guess.now.y c.args.guess.now.q c.dual_sum-sum.ensures.ops
    (omega (arith, c.requires.guess.some))
    c.requires.system.columns c.requires.objective.columns)

pub returns-clause-narrower : goal.returns-clause-narrower
returns-clause-narrower c =
    let value : to_z w128 (of_z w128 c.div_euclid.result)
    ≡ dual_value c.args.rows.now c.args.ranges.now c.args.objective.now c.args.guess.now.y c.args.guess.now.q = search rules in
    rw value
    (value-bounds_narrower c.args.rows.now c.args.ranges.now c.args.objective.now c.args.guess.now.y c.args.guess.now.q c.dual_sum-sum.ensures.ops
    (omega (arith, c.requires.guess.some)))
