use Rattle.std.proofs.Common.{ap, sym, ◌∙◌}
use Rattle.std.specs.Result.{result_err}
use Rattle.plant_model.proofs.NoFaults.{few_of_none}
use Rattle.plant_model.proofs.faults.first_fault.Goals as goal

pub entries-requires : goal.entries-requires
entries-requires c = few_of_none c.args.parts.now (sym c.counts.ensures ∙ ap result_err c.in_ok-counts.was)
