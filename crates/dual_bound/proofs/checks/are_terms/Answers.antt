use Rattle.std.proofs.Common.{rules, ◌≡◌, ◌*◌, ◌<◌, ◌^◌, take, length, get_or, unsigned_abs}
use Rattle.std.proofs.lemmas.List.{take_all}
use Rattle.std.proofs.lemmas.List.Elements.{All-more}
use Rattle.linear_form.specs.declared.row.RowTerm.{RowTerm}
use Rattle.linear_form.specs.Bounds.{range_of}
use Rattle.linear_form.specs.Columns.{IsColumn}
use Rattle.dual_bound.specs.Conditions.{reach_of}
use Rattle.dual_bound.proofs.checks.are_terms.Goals as goal
use Rattle.dual_bound.proofs.FactorLaws.{no_term}

pub loop-term-preserved : goal.loop-term-preserved
loop-term-preserved c =
    let there : c.loop-term.term-index < length c.args.terms.now = search rules in
    let term = get_or c.args.terms.now c.loop-term.term-index no_term in
    let column : IsColumn c.args.ranges.now.extent term.column = search rules in
    let small : unsigned_abs term.factor * reach_of (range_of c.args.ranges.now term.column) < 2 ^ 60 = search rules in
    record {
      columns = All-more (λ (t : RowTerm). IsColumn c.args.ranges.now.extent t.column) c.args.terms.now c.loop-term.term-index no_term there
          c.loop-term.invariant.columns column;
      small = All-more (λ (t : RowTerm). unsigned_abs t.factor * reach_of (range_of c.args.ranges.now t.column) < 2 ^ 60) c.args.terms.now
          c.loop-term.term-index no_term there
          c.loop-term.invariant.small small;
    }

pub returns-clause-columns : goal.returns-clause-columns
returns-clause-columns c = λ _.
    let all : take c.loop-term.term-index c.args.terms.now ≡ c.args.terms.now = take_all c.loop-term.term-index c.args.terms.now (search rules) in
    rw all at c.loop-term.invariant.columns

pub returns-clause-small : goal.returns-clause-small
returns-clause-small c = λ _.
    let all : take c.loop-term.term-index c.args.terms.now ≡ c.args.terms.now = take_all c.loop-term.term-index c.args.terms.now (search rules) in
    rw all at c.loop-term.invariant.small
