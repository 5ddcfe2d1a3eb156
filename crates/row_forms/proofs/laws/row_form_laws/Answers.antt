use Rattle.std.proofs.Common.{◌≤◌, arith}
use Rattle.linear_form.specs.Listed.{columns_of}
use Rattle.linear_form.proofs.ListedLaws.{columns-apart}
use Rattle.plant_model.specs.Parts.{op_count_of}
use Rattle.row_forms.specs.Columns.{extent_of}
use Rattle.row_forms.specs.Pieces.{factor_at}
use Rattle.row_forms.proofs.OfColumnLaws.{columns_are_few, terms_are_of_columns}
use Rattle.row_forms.proofs.OnceLaws.{terms-once}
use Rattle.row_forms.proofs.PieceLaws.{figures_are_of_operations, one_slot_is_its_figure, first_slots_are_their_figures, wait_is_the_vessels}
use Rattle.row_forms.proofs.RunLaws.{fits-run}
use Rattle.row_forms.proofs.TermLaws.{terms_are_small, few_pieces_reach_little}
use Rattle.row_forms.proofs.ValueLaws.{value-at_form, rows_hold_by_pieces}
use Rattle.row_forms.proofs.laws.row_form_laws.Goals as goal

pub returns-clause-value : goal.returns-clause-value
returns-clause-value c = λ order word n pieces runs.
    value-at_form c.args.plant.now n word pieces (fits-run c.args.plant.now order word c.sound.ensures.plant runs)

pub returns-clause-one_slot : goal.returns-clause-one_slot
returns-clause-one_slot c = one_slot_is_its_figure c.args.plant.now

pub returns-clause-first_slots : goal.returns-clause-first_slots
returns-clause-first_slots c = first_slots_are_their_figures c.args.plant.now

pub returns-clause-wait : goal.returns-clause-wait
returns-clause-wait c = wait_is_the_vessels c.args.plant.now

pub returns-clause-once : goal.returns-clause-once
returns-clause-once c = λ n pieces.
    let few : op_count_of c.args.plant.now ≤ 255 = (let most = c.sound.ensures.plant.ops in omega arith) in
    terms-once (factor_at c.args.plant.now pieces) (columns_of (extent_of c.args.plant.now n)) (columns-apart (extent_of c.args.plant.now n) few)

pub returns-clause-columns : goal.returns-clause-columns
returns-clause-columns c = terms_are_of_columns c.args.plant.now

pub returns-clause-small : goal.returns-clause-small
returns-clause-small c = terms_are_small c.args.plant.now

pub returns-clause-few : goal.returns-clause-few
returns-clause-few c = columns_are_few c.args.plant.now c.sound.ensures.plant

pub returns-clause-rows : goal.returns-clause-rows
returns-clause-rows c = rows_hold_by_pieces c.args.plant.now c.sound.ensures.plant

pub returns-clause-reach : goal.returns-clause-reach
returns-clause-reach c = few_pieces_reach_little

pub returns-clause-figures : goal.returns-clause-figures
returns-clause-figures c = figures_are_of_operations c.args.plant.now c.sound.ensures.plant
