use Rattle.std.proofs.Common.{◌≡◌, List, get_or, subst, ◌∙◌, rules, tests}
use Rattle.std.specs.Prelude.{⊤}
use Rattle.std.proofs.lemmas.Iterator.{IsFirst-from_position, YieldsList-from_slice}
use Rattle.std.proofs.lemmas.Option.{IfSome_then, MatchOption-at_some}
use Rattle.linear_form.specs.Rows.{RowForm}
use Rattle.slot_box.specs.declared.term.RowName.{RowName}
use Rattle.search_node.proofs.BlockLaws.{row_found}
use Rattle.search_node.proofs.block.RowBlock.find.Goals as goal

pub returns : goal.returns
returns c = λ parts n block.
    let names = c.args.self.now.names in
    let name = c.args.name in
    let place = c.in_ok-place.place in
    let first = IsFirst-from_position _ _ c.position.result (λ (other : RowName). other ≡ name) (λ (other : RowName). ⊤)
    c.position.ensures.ran (YieldsList-from_slice names (c.iter.ensures.rest ∙ c.as_slice.ensures))
    (λ x q k. search (rules, tests)) (λ x q k. search (rules, tests)) in
    let there = MatchOption-at_some _ _ place c.in_ok-place.was first in
    let same : c.as_slice-2.result.now ≡ c.args.self.now.rows = c.as_slice-2.ensures in
    IfSome_then c.get.result c.get.ensures.lookup.1 (λ row is.
    row_found parts n c.args.self.now name place row.now block (there.0, there.1)
    (subst (λ (rows : List RowForm). row.now ≡ get_or rows place row.now) same is))
