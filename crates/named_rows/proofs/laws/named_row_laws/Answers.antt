use Rattle.named_rows.proofs.BoundLaws.{forms_lie_in_ranges, objectives_are_margins, dual_values_bound_margins, empty_boxes_have_no_form}
use Rattle.named_rows.proofs.NarrowLaws.{parts_have_narrower_ranges}
use Rattle.named_rows.proofs.laws.named_row_laws.Goals as goal

pub returns-clause-bounds : goal.returns-clause-bounds
returns-clause-bounds c =
    dual_values_bound_margins c.args.plant.now c.slot_row_laws.ensures.rows c.tank_row_laws.ensures c.cut_row_laws.ensures c.clique_laws.ensures.cliques c.row_form_laws.ensures.columns
    c.box_laws.ensures.live c.sound.ensures.plant

pub returns-clause-empty : goal.returns-clause-empty
returns-clause-empty c =
    empty_boxes_have_no_form c.args.plant.now c.slot_row_laws.ensures.rows c.tank_row_laws.ensures c.cut_row_laws.ensures c.clique_laws.ensures.cliques c.row_form_laws.ensures.columns
    c.box_laws.ensures.live c.sound.ensures.plant

pub returns-clause-ranges : goal.returns-clause-ranges
returns-clause-ranges c = forms_lie_in_ranges c.args.plant.now c.box_laws.ensures.live c.sound.ensures.plant

pub returns-clause-objective : goal.returns-clause-objective
returns-clause-objective c = objectives_are_margins c.args.plant.now c.sound.ensures.plant

pub returns-clause-splits : goal.returns-clause-splits
returns-clause-splits c = parts_have_narrower_ranges c.args.plant.now
