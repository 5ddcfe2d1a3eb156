use Rattle.std.proofs.Common.{rules, ◌<◌, ◌≡◌, ◌≤◌, ◌^◌, take, length, unsigned_abs}
use Rattle.std.proofs.lemmas.List.{take_all}
use Rattle.std.proofs.lemmas.List.Elements.{All-more}
use Rattle.linear_form.specs.declared.row.RowTerm.{RowTerm}
use Rattle.dual_bound.proofs.FactorLaws.{prefix-small, no_term}
use Rattle.dual_bound.proofs.weigh.have_small_factors.Goals as goal

pub loop-term-preserved : goal.loop-term-preserved
loop-term-preserved c =
    let there : c.loop-term.term-index < length c.args.terms.now = search rules in
    All-more (λ (t : RowTerm). unsigned_abs t.factor ≤ 2 ^ 63) c.args.terms.now c.loop-term.term-index no_term there c.loop-term.invariant
    c.has_small_factor.ensures

pub returns : goal.returns
returns c = λ j.
    let all : take c.loop-term.term-index c.args.terms.now ≡ c.args.terms.now = take_all c.loop-term.term-index c.args.terms.now (search rules) in
    rw all at (prefix-small c.args.ranges.now.extent c.loop-term.term-index c.args.terms.now c.requires.columns c.requires.once c.loop-term.invariant j)
