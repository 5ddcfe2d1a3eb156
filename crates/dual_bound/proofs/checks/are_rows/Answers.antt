use Rattle.std.proofs.Common.{rules, ◌≡◌, ◌<◌, ◌^◌, take, unsigned_abs, ◌∙◌, IsTrue, arith}
use Rattle.std.proofs.lemmas.List.{take_all}
use Rattle.std.proofs.lemmas.List.Elements.{All-more}
use Rattle.linear_form.specs.Rows.{RowForm}
use Rattle.dual_bound.specs.Conditions.{AreColumns, AreSmall}
use Rattle.dual_bound.proofs.StoredNumbers.{read-small}
use Rattle.dual_bound.proofs.checks.are_rows.Goals as goal

pub loop-r-preserved : goal.loop-r-preserved
loop-r-preserved c =
    let row = c.index-rows-r.result in
    let passed : IsTrue c.are_terms.result = search rules in
    let columns : AreColumns c.args.ranges.now.extent row.terms = rw c.terms.ensures.value at (c.are_terms.ensures.columns passed) in
    let small : AreSmall c.args.ranges.now row.terms = rw c.terms.ensures.value at (c.are_terms.ensures.small passed) in
    let read = read-small c.right.result (record { sfits = c.right.type_inv }) ∙ c.right.ensures.value in
    let size = rw read at c.unsigned_abs.ensures.value in
    let right : unsigned_abs row.right < 2 ^ 60 = omega (arith, size, c.if-unsigned_abs.false) in
    record {
      columns = All-more (λ (form : RowForm). AreColumns c.args.ranges.now.extent form.terms) c.args.rows.now c.loop-r.r row c.loop-r-test.true
          c.loop-r.invariant.columns (rw (← c.index-rows-r.is) columns);
      small = All-more (λ (form : RowForm). AreSmall c.args.ranges.now form.terms) c.args.rows.now c.loop-r.r row c.loop-r-test.true c.loop-r.invariant.small
          (rw (← c.index-rows-r.is) small);
      rights = All-more (λ (form : RowForm). unsigned_abs form.right < 2 ^ 60) c.args.rows.now c.loop-r.r row c.loop-r-test.true c.loop-r.invariant.rights
          (rw (← c.index-rows-r.is) right);
    }

pub returns-clause-columns : goal.returns-clause-columns
returns-clause-columns c = λ _.
    let all : take c.loop-r.r c.args.rows.now ≡ c.args.rows.now = take_all c.loop-r.r c.args.rows.now (search rules) in
    rw all at c.loop-r.invariant.columns

pub returns-clause-small : goal.returns-clause-small
returns-clause-small c = λ _.
    let all : take c.loop-r.r c.args.rows.now ≡ c.args.rows.now = take_all c.loop-r.r c.args.rows.now (search rules) in
    rw all at c.loop-r.invariant.small

pub returns-clause-rights : goal.returns-clause-rights
returns-clause-rights c = λ _.
    let all : take c.loop-r.r c.args.rows.now ≡ c.args.rows.now = take_all c.loop-r.r c.args.rows.now (search rules) in
    rw all at c.loop-r.invariant.rights
