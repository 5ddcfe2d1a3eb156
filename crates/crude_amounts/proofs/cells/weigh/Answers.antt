use Rattle.std.proofs.Common.{◌≡◌, ◌+◌, ◌<◌, pos, ◌+ℤ◌, ◌*ℤ◌, get_or, length, take, ap, add-one, ◌∙◌, arith, rules}
use Rattle.std.proofs.lemmas.Int.{ints, to_z-of_z}
use Rattle.std.proofs.lemmas.List.{take_all}
use Rattle.std.proofs.lemmas.List.Sums.{sum_by_more, sum_by-take-le}
use mir.Syntax.{w64}
use mir.Val.{SFits}
use Rattle.crude_amounts.specs.Amounts.{weighted_of}
use Rattle.crude_amounts.proofs.WeightLaws.{weighted_of_more}
use Rattle.crude_amounts.proofs.cells.weigh.Goals as goal

pub loop-c-preserved : goal.loop-c-preserved
loop-c-preserved c =
    let cells = c.args.cells.now in
    let weights = c.args.weights.now in
    let i = c.loop-c.c in
    let weighed : i < length weights = omega arith in
    let fits : SFits w64 (get_or weights i (pos 0)) = search rules in
    let exact : c.product-sum.result ≡ get_or weights i (pos 0) *ℤ pos (get_or cells i 0) =
    c.product-sum.ensures.value ∙ ap (λ z. z *ℤ pos (get_or cells i 0)) (to_z-of_z w64 (get_or weights i (pos 0)) fits) in
    let next : weighted_of (take (i + 1) cells) weights ≡ weighted_of (take i cells) weights +ℤ (get_or weights i (pos 0) *ℤ pos (get_or cells i 0)) =
    ap (λ n. weighted_of (take n cells) weights) (add-one i) ∙ weighted_of_more cells weights i c.loop-c-test.true weighed in
    let grown = sum_by_more (λ x. x) cells i 0 c.loop-c-test.true in
    let within = sum_by-take-le (λ x. x) cells (i + 1) in
    record { done = omega (arith, ints); low = omega (arith, ints); high = omega (arith, ints) }

pub returns : goal.returns
returns c = let all = take_all c.loop-c.c c.args.cells.now c.loop-c-test.false in c.loop-c.invariant.done ∙ ap (λ xs. weighted_of xs c.args.weights.now) all
