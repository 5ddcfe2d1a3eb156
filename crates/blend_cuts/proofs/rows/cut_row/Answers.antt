use Rattle.std.proofs.Common.{sym, ◌∙◌, arith}
use Rattle.blend_cuts.proofs.RowLaws.{has_its_row}
use Rattle.blend_cuts.proofs.rows.cut_row.Goals as goal

pub inequality-requires-clause-valid : goal.inequality-requires-clause-valid
inequality-requires-clause-valid c = (has_its_row c.args.plant.now c.args.n c.args.cut.now c.args.slot c.args.op (sym c.has_row.ensures ∙ c.if-not-has_row.false)).valid

pub inequality-requires-clause-some : goal.inequality-requires-clause-some
inequality-requires-clause-some c = (has_its_row c.args.plant.now c.args.n c.args.cut.now c.args.slot c.args.op (sym c.has_row.ensures ∙ c.if-not-has_row.false)).some

pub inequality-requires-clause-slots : goal.inequality-requires-clause-slots
inequality-requires-clause-slots c =
    let within = (has_its_row c.args.plant.now c.args.n c.args.cut.now c.args.slot c.args.op (sym c.has_row.ensures ∙ c.if-not-has_row.false)).within in
    omega (arith, within, c.requires)

pub inequality-requires-clause-op : goal.inequality-requires-clause-op
inequality-requires-clause-op c = (has_its_row c.args.plant.now c.args.n c.args.cut.now c.args.slot c.args.op (sym c.has_row.ensures ∙ c.if-not-has_row.false)).known
