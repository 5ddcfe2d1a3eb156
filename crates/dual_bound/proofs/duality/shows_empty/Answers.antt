use Rattle.std.proofs.Common.{rules, ◌≡◌, ◌<ℤ◌, true, ℤ, pos, to_z, of_z}
use Rattle.std.specs.Int.{w128}
use Rattle.std.proofs.lemmas.Bool.{OnTrue_from}
use lib.Signed.{lt_z}
use Rattle.dual_bound.specs.Conditions.{HasNoPoint}
use Rattle.dual_bound.specs.Dual.{emptiness_sum}
use Rattle.dual_bound.proofs.DualLaws.{negative-has_no_point}
use Rattle.dual_bound.proofs.duality.shows_empty.Goals as goal

below-zero : (z : ℤ) → lt_z z (pos 0) ≡ true → z <ℤ pos 0
below-zero z below = search rules

pub returns-clause-empty : goal.returns-clause-empty
returns-clause-empty c =
    let value : to_z w128 (of_z w128 c.dual_sum.result) ≡ emptiness_sum c.args.rows.now c.args.ranges.now c.args.guess.now.y = search rules in
    rw value
    (OnTrue_from (lt_z (emptiness_sum c.args.rows.now c.args.ranges.now c.args.guess.now.y) (pos 0)) (HasNoPoint c.args.rows.now c.args.ranges.now)
    (λ below. negative-has_no_point c.args.rows.now c.args.ranges.now c.args.guess.now.y c.dual_sum.ensures.ops c.requires.system.columns
    (below-zero (emptiness_sum c.args.rows.now c.args.ranges.now c.args.guess.now.y) below)))
