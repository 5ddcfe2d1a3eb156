use Rattle.std.proofs.Common.{List, ◌++◌, ap, sym, ◌∙◌}
use Rattle.std.proofs.lemmas.List.{append-nil}
use Rattle.linear_form.specs.declared.row.RowTerm.{RowTerm}
use Rattle.plant_model.specs.Parts.{op_count_of, crude_count_of}
use Rattle.row_forms.proofs.BuildLaws.{slot-none}
use Rattle.row_forms.proofs.terms.push_slot.Goals as goal

pub returns-then-not-reach_slot : goal.returns-then-not-reach_slot
returns-then-not-reach_slot c =
    let start = c.args.terms.now.items in
    let parts = c.args.plant.now in
    let terms = slot-none parts c.args.pieces.now (op_count_of parts) (crude_count_of parts) c.args.slot
    (sym c.reach_slot.ensures ∙ c.if-not-reach_slot.true) in
    sym (ap (λ (more : List RowTerm). start ++ more) terms ∙ append-nil start)
