use Rattle.std.proofs.Common.{rules, ◌≡◌, ◌<◌, ◌+ℤ◌, ℤ, take, length, get_or, ap, sym, ◌∙◌, to_z, arith}
use Rattle.std.specs.Int.{w128}
use Rattle.number_laws.specs.SignedSums.{total_by}
use Rattle.number_laws.proofs.SignedSumLaws.{total_by-more}
use Rattle.linear_form.specs.Columns.{count_of}
use Rattle.dual_bound.specs.inside.Steps.{changes}
use Rattle.dual_bound.proofs.ChangeLaws.{prefix_changes-size}
use Rattle.dual_bound.proofs.StoredNumbers.{read-mag}
use Rattle.dual_bound.proofs.singles.change_by.Goals as goal
use Rattle.dual_bound.proofs.FactorLaws.{no_term}

pub plus-sum-requires : goal.plus-sum-requires
plus-sum-requires c =
    let count : length c.args.ranges.now.ends ≡ count_of c.args.ranges.now.extent = c.ends-ends.ensures.count in
    let size = prefix_changes-size c.args.ranges.now c.args.weights.now c.args.y c.args.terms.now c.loop-term.term-index c.requires.few_columns count
    c.requires.few c.requires.columns c.requires.once c.requires.small
    c.requires.room in
    let sum : to_z w128 c.loop-term.sum-bits
    ≡ total_by (changes c.args.ranges.now c.args.weights.now c.args.y) (take c.loop-term.term-index c.args.terms.now) = c.loop-term.invariant in
    rw (sum, read-mag c.change_of_term.result c.change_of_term.type_inv) (omega (arith, size, c.change_of_term.ensures.size))

pub loop-term-preserved : goal.loop-term-preserved
loop-term-preserved c =
    let there : c.loop-term.term-index < length c.args.terms.now = search rules in
    let term = get_or c.args.terms.now c.loop-term.term-index no_term in
    let piece : c.change_of_term.result ≡ changes c.args.ranges.now c.args.weights.now c.args.y term = c.change_of_term.ensures.value in
    let sum : to_z w128 c.loop-term.sum-bits
    ≡ total_by (changes c.args.ranges.now c.args.weights.now c.args.y) (take c.loop-term.term-index c.args.terms.now) = c.loop-term.invariant in
    let plus : c.plus-sum.result ≡ to_z w128 c.loop-term.sum-bits +ℤ c.change_of_term.result =
    rw (read-mag c.change_of_term.result c.change_of_term.type_inv) at c.plus-sum.ensures in
    let more = total_by-more (changes c.args.ranges.now c.args.weights.now c.args.y) c.args.terms.now c.loop-term.term-index no_term there in
    read-mag c.plus-sum.result c.plus-sum.type_inv
    ∙ (plus ∙ (ap (λ (z : ℤ). z +ℤ c.change_of_term.result) sum
    ∙ (ap (λ (z : ℤ). total_by (changes c.args.ranges.now c.args.weights.now c.args.y) (take c.loop-term.term-index c.args.terms.now) +ℤ z) piece ∙ sym more)))

pub returns-clause-size : goal.returns-clause-size
returns-clause-size c =
    let count : length c.args.ranges.now.ends ≡ count_of c.args.ranges.now.extent = c.ends-ends.ensures.count in
    let size = prefix_changes-size c.args.ranges.now c.args.weights.now c.args.y c.args.terms.now c.loop-term.term-index c.requires.few_columns count
    c.requires.few c.requires.columns c.requires.once c.requires.small
    c.requires.room in
    let sum : to_z w128 c.loop-term.sum-bits
    ≡ total_by (changes c.args.ranges.now c.args.weights.now c.args.y) (take c.loop-term.term-index c.args.terms.now) = c.loop-term.invariant in
    rw sum (omega (arith, size))
