use Rattle.std.proofs.Common.{rules}
use Rattle.slot_rows.specs.inside.Given.{IsGiven}
use Rattle.slot_rows.proofs.GivenLaws.{kept-set}
use Rattle.slot_rows.proofs.box_ranges.set_column.Goals as goal

pub returns-clause-kept : goal.returns-clause-kept
returns-clause-kept c =
    let given : IsGiven c.args.plant.now c.args.bx.now c.set.new.self c.args.column = search rules in
    kept-set c.args.plant.now c.args.bx.now c.args.ranges.now c.set.new.self c.args.column c.requires.extent c.requires.there c.set.ensures.extent
    given c.set.ensures.others
