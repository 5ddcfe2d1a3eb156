use Rattle.std.proofs.Common.{◌≡◌, ◌+◌, ◌≤◌, List, [], ◌∷◌, ◌++◌, length, ap, subst, sym, ◌∙◌, arith}
use Rattle.item_lists.specs.Joined.{joined_below}
use Rattle.linear_form.specs.declared.row.RowTerm.{RowTerm}
use Rattle.linear_form.specs.Rows.{HasEachOnce}
use Rattle.linear_form.specs.Listed.{vessel_column, columns_of, columns_of_slot}
use Rattle.linear_form.proofs.ListedLaws.{columns-apart}
use Rattle.plant_model.specs.Parts.{op_count_of, crude_count_of}
use Rattle.row_forms.specs.Columns.{extent_of}
use Rattle.row_forms.specs.Pieces.{factor_at}
use Rattle.row_forms.specs.Terms.{terms_of}
use Rattle.row_forms.proofs.BuildLaws.{terms_append}
use Rattle.row_forms.proofs.OnceLaws.{terms-once}
use Rattle.row_forms.proofs.terms.build_terms.Goals as goal

pub returns-clause-once : goal.returns-clause-once
returns-clause-once c =
    let parts = c.args.plant.now in
    let few : op_count_of parts ≤ 255 = (let most = c.sound.ensures.plant.ops in omega arith) in
    let once = terms-once (factor_at parts c.args.pieces.now) (columns_of (extent_of parts c.args.n)) (columns-apart (extent_of parts c.args.n) few) in
    let slots = joined_below c.args.n (λ k. columns_of_slot (op_count_of parts) (crude_count_of parts) (k + 1)) in
    let vessels = joined_below (length parts.vessels) (λ p. vessel_column p ∷ []) in
    let whole = terms_append (factor_at parts c.args.pieces.now) slots vessels c.new-terms.result.items c.push_slots.new.terms.items
    c.push_waits.new.terms.items c.in_ok-push_slots.ensures c.in_ok-push_waits.ensures in
    let first = ap (λ (start : List RowTerm). start ++ terms_of parts c.args.n c.args.pieces.now) c.new-terms.ensures.items in
    let is : c.from_vec.result ≡ terms_of parts c.args.n c.args.pieces.now = c.from_vec.ensures ∙ (whole ∙ first) in
    subst HasEachOnce (sym is) once
