use Rattle.std.proofs.Common.{rules, ◌≡◌, length}
use Rattle.dual_bound.specs.inside.Systems.{row_count}
use Rattle.dual_bound.proofs.descent.descend.Goals as goal

pub try_guess-sum-requires-clause-guess : goal.try_guess-sum-requires-clause-guess
try_guess-sum-requires-clause-guess c = record {
  as_many = let as_many : length c.loop-round.multipliers ≡ row_count c.args.system.now = search rules in as_many;
  within = c.loop-round.invariant.within;
  some = search rules;
  most = search rules;
}
