use Rattle.std.proofs.Common.{◌≡◌, ◌+◌, get_or, take, set, sym, ap, ◌∙◌, add-one, arith}
use Rattle.std.proofs.lemmas.List.Sums.{get_or-le-sum_by}
use Rattle.crude_amounts.specs.Amounts.{mix_of}
use Rattle.crude_amounts.proofs.MixLaws.{mix_of-nothing, mix_of-before, mix_of_more}
use Rattle.crude_amounts.proofs.cells.add_each.Goals as goal

pub loop-c-init : goal.loop-c-init
loop-c-init c = sym (mix_of-nothing _)

pub overflow_add-cells : goal.overflow_add-cells
overflow_add-cells c =
    let held = c.args.cells.now in
    let more = c.args.more.now in
    let i = c.loop-c.c in
    let same : get_or c.loop-c.cells i 0 ≡ get_or held i 0 = ap (λ cells. get_or cells i 0) c.loop-c.invariant ∙ mix_of-before held more i in
    omega (arith, get_or-le-sum_by (λ x. x) held i 0 (omega arith), get_or-le-sum_by (λ x. x) more i 0 (omega arith))

pub loop-c-preserved : goal.loop-c-preserved
loop-c-preserved c =
    let held = c.args.cells.now in
    let more = c.args.more.now in
    let i = c.loop-c.c in
    ap (λ cells. set cells i (get_or cells i 0 + get_or more i 0)) c.loop-c.invariant
    ∙ ap (λ n. set (mix_of held (take i more)) i (n + get_or more i 0)) (mix_of-before held more i)
    ∙ sym (mix_of_more held more i c.loop-c-test.true)
    ∙ ap (λ n. mix_of held (take n more)) (sym (add-one i))
