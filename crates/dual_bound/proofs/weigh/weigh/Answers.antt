use Rattle.std.proofs.Common.{◌+◌}
use Rattle.dual_bound.specs.inside.Systems.{weight_in}
use Rattle.dual_bound.proofs.CellLaws.{hold-added}
use Rattle.dual_bound.proofs.weigh.weigh.Goals as goal

pub returns-clause-weights : goal.returns-clause-weights
returns-clause-weights c = hold-added
    (λ k. weight_in c.args.system.now c.args.multipliers.now c.args.q (c.args.from + k)) c.clear.new.cells c.add_weights.new.cells c.clear.ensures
    c.add_weights.ensures.added
