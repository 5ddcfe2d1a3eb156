use Rattle.std.proofs.Common.{◌≡◌, ℕ, ◌+◌, [], ◌∷◌, Ok, sym, ◌∙◌, subst, arith, length-append}
use Rattle.dossier_text.specs.inside.ListReading.{item_at}
use Rattle.dossier_text.proofs.LineLaws.{goes_on}
use Rattle.dossier_text.proofs.list_lines.items_at.Goals as goal

pub loop-index-preserved : goal.loop-index-preserved
loop-index-preserved g c =
    let said = g.X.LineItem.said in
    let first = c.args.lines.now.number in
    let kept = c.loop-index.invariant in
    let read =
    subst (λ (n : ℕ). item_at said n c.loop-index.index c.loop-index.lines.rest ≡ Ok (c.in_ok-item.item, c.item_at.new.lines.rest)) kept.number
    c.in_ok-item.ensures.exact in
    let line =
    goes_on (λ (index : ℕ). item_at said (first + index) index) c.loop-index.items c.args.count c.loop-index.index c.loop-index.lines.rest
    c.item_at.new.lines.rest c.in_ok-item.item c.loop-index-test.true read in
    rw c.in_ok-keep.ensures.kept
    record {
      kept = omega (arith, length-append c.loop-index.items (c.in_ok-item.item ∷ []), kept.kept);
      number = omega (arith, c.in_ok-item.ensures.next, kept.number);
      whole = sym line ∙ kept.whole;
    }
