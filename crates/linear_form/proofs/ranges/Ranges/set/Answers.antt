use Rattle.std.proofs.Common.{rules}
use Rattle.linear_form.specs.Columns.{Extent}
use Rattle.linear_form.proofs.ColumnLaws.{keeps_others}
use Rattle.linear_form.proofs.ranges.Ranges.set.Goals as goal

pub returns-clause-others : goal.returns-clause-others
returns-clause-others c =
    let extent : Extent = record { slots = c.self.inside.slots; ops = c.self.inside.ops; crudes = c.self.inside.crudes; vessels = c.self.inside.vessels } in
    keeps_others c.args.self.now (record { extent = extent; ends = _ }) c.args.column (record { lo = c.args.lo; hi = c.args.hi }) c.requires (search rules)
    (search rules)
