use Rattle.std.proofs.Common.{arith}
use Rattle.greedy_plan.proofs.TimeLaws.{none_fits}
use Rattle.greedy_plan.proofs.room.longest.Goals as goal

pub returns : goal.returns
returns c = λ minutes some most fits.
    none_fits c.args.rate c.args.limit c.requires.order
    (λ m in_limit late. c.loop-back.invariant m in_limit (omega arith)) minutes most fits
