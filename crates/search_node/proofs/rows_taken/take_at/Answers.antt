use Rattle.std.proofs.Common.{◌≡◌, ◌<◌, List, get_or, length, sym, subst}
use Rattle.std.proofs.lemmas.Bool.{ltb-true}
use Rattle.linear_form.specs.Rows.{RowForm}
use Rattle.named_rows.specs.NamedRows.{IsNamed}
use Rattle.slot_box.specs.declared.term.RowName.{RowName}
use Rattle.search_node.proofs.BlockLaws.{zip_at}
use Rattle.search_node.proofs.rows_taken.take_at.Goals as goal

pub take_row-requires-clause-named : goal.take_row-requires-clause-named
take_row-requires-clause-named c =
    let parts = c.args.weighing.now.plant.now in
    let n = length c.args.weighing.now.bx.now in
    let block = c.args.block.now in
    let place = c.args.place in
    let name = c.in-Some.name.now in
    let row = c.in-Some-get.row.now in
    let names : c.as_slice.result.now ≡ block.names = c.as_slice.ensures in
    let rows : c.as_slice-2.result.now ≡ block.rows = c.as_slice-2.ensures in
    let inside : place < length block.names = subst (λ (xs : List RowName). place < length xs) names (ltb-true place (length c.as_slice.result.now) (sym c.in-Some.ensures.lookup.0)) in
    let both = zip_at (IsNamed parts n) block.names block.rows place name row c.requires.block.named inside in
    let name_is : name ≡ get_or block.names place name = subst (λ (xs : List RowName). name ≡ get_or xs place name) names c.in-Some.ensures.lookup.1 in
    let row_is : row ≡ get_or block.rows place row = subst (λ (xs : List RowForm). row ≡ get_or xs place row) rows c.in-Some-get.ensures.lookup.1 in
    subst (λ (other : RowForm). IsNamed parts n name other) (sym row_is)
    (subst (λ (other : RowName). IsNamed parts n other (get_or block.rows place row)) (sym name_is) both.1)
