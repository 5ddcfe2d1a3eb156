use Rattle.std.proofs.Common.{rules, ◌≡◌, ◌^◌, to_z, of_z}
use Rattle.std.specs.Int.{w128}
use Rattle.dual_bound.specs.Dual.{most_in}
use Rattle.dual_bound.proofs.EarnedLaws.{most_in-size}
use Rattle.dual_bound.proofs.earned.most_in.Goals as goal

pub returns-clause-size : goal.returns-clause-size
returns-clause-size c =
    let value : to_z w128 (of_z w128 c.max.result) ≡ most_in c.args.range c.args.weight = search rules in
    rw value (most_in-size c.args.range c.args.weight (2 ^ 104) c.requires)
