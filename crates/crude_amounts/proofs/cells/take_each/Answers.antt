use Rattle.std.proofs.Common.{◌≡◌, ◌-◌, ◌≤◌, get_or, take, set, sym, ap, ◌∙◌, add-one, arith}
use Rattle.crude_amounts.specs.Amounts.{rest_of}
use Rattle.crude_amounts.proofs.MixLaws.{rest_of-nothing, rest_of-before, rest_of_more}
use Rattle.crude_amounts.proofs.cells.take_each.Goals as goal

pub loop-c-init : goal.loop-c-init
loop-c-init c = sym (rest_of-nothing _)

pub overflow_sub-cells : goal.overflow_sub-cells
overflow_sub-cells c =
    let held = c.args.cells.now in
    let drawn = c.args.drawn.now in
    let i = c.loop-c.c in
    let same : get_or c.loop-c.cells i 0 ≡ get_or held i 0 = ap (λ cells. get_or cells i 0) c.loop-c.invariant ∙ rest_of-before held drawn i in
    let there : get_or drawn i 0 ≤ get_or held i 0 = c.requires.there i c.loop-c-test.true in
    omega arith

pub loop-c-preserved : goal.loop-c-preserved
loop-c-preserved c =
    let held = c.args.cells.now in
    let drawn = c.args.drawn.now in
    let i = c.loop-c.c in
    ap (λ cells. set cells i (get_or cells i 0 - get_or drawn i 0)) c.loop-c.invariant
    ∙ ap (λ n. set (rest_of held (take i drawn)) i (n - get_or drawn i 0)) (rest_of-before held drawn i)
    ∙ sym (rest_of_more held drawn i c.loop-c-test.true)
    ∙ ap (λ n. rest_of held (take n drawn)) (sym (add-one i))
