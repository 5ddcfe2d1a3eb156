use Rattle.std.proofs.Common.{List, ◌++◌, ap, sym, ◌∙◌}
use Rattle.std.proofs.lemmas.List.{append-nil}
use Rattle.linear_form.specs.declared.row.RowTerm.{RowTerm}
use Rattle.plant_model.specs.Parts.{crude_count_of}
use Rattle.row_forms.proofs.BuildLaws.{operation-none}
use Rattle.row_forms.proofs.terms.push_operation.Goals as goal

pub returns-then-not-reach_entry : goal.returns-then-not-reach_entry
returns-then-not-reach_entry c =
    let start = c.args.terms.now.items in
    let terms = operation-none c.args.plant.now c.args.pieces.now (crude_count_of c.args.plant.now) c.args.slot c.args.v
    (sym c.reach_entry.ensures ∙ c.if-not-reach_entry.true) in
    sym (ap (λ (more : List RowTerm). start ++ more) terms ∙ append-nil start)
