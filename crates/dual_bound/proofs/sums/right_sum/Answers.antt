use Rattle.std.proofs.Common.{◌≡◌, ◌+ℤ◌, ◌*ℤ◌, ℕ, ℤ, pos, take, get_or, ap, sym, ◌∙◌, to_z, arith}
use Rattle.std.specs.Int.{w128}
use Rattle.std.proofs.lemmas.List.Elements.{All-more}
use Rattle.linear_form.specs.Rows.{RowForm, HasEachOnce}
use Rattle.number_laws.proofs.SignedSumLaws.{abs-sum, total_by_pairs-more}
use Rattle.dual_bound.specs.Dual.{weighed_right}
use Rattle.dual_bound.proofs.StoredNumbers.{read-mag, read-small}
use Rattle.dual_bound.proofs.sums.right_sum.Goals as goal

pub loop-r-preserved : goal.loop-r-preserved
loop-r-preserved c =
    let ys = c.args.multipliers.now in
    let rows = c.args.rows.now in
    let row = c.index-rows-r.result in
    let y = get_or ys c.loop-r.r 0 in
    let whole = read-mag c.plus-sum.result c.plus-sum.type_inv in
    let part = read-mag c.scaled.result c.scaled.type_inv in
    let times = read-mag c.from.result c.from.type_inv ∙ c.from.ensures in
    let right = read-small c.right.result (record { sfits = c.right.type_inv }) ∙ c.right.ensures.value in
    let value : c.scaled.result ≡ pos y *ℤ row.right = rw (times, right) at c.scaled.ensures.value in
    let plus : c.plus-sum.result ≡ to_z w128 c.loop-r.sum-bits +ℤ c.scaled.result = rw part at c.plus-sum.ensures in
    let f = λ (z : ℕ) (form : RowForm). pos z *ℤ form.right in
    let more = total_by_pairs-more f ys rows c.loop-r.r 0 row (omega (arith, c.requires.as_many)) c.loop-r-test.true in
    let last : f y (get_or rows c.loop-r.r row) ≡ f y row = ap (f y) (sym c.index-rows-r.is) in
    let sizes = abs-sum (to_z w128 c.loop-r.sum-bits) c.scaled.result in
    let before = c.loop-r.invariant.value in
    record {
      value = whole ∙ (plus ∙ (ap (λ (z : ℤ). z +ℤ c.scaled.result) before
          ∙ (ap (λ (z : ℤ). weighed_right (take c.loop-r.r ys) (take c.loop-r.r rows) +ℤ z) (value ∙ sym last) ∙ sym more)));
      size = rw (whole, plus) (omega (arith, sizes, c.loop-r.invariant.size, c.scaled.ensures.size));
      once = All-more (λ (form : RowForm). HasEachOnce form.terms) rows c.loop-r.r row c.loop-r-test.true c.loop-r.invariant.once
          (rw (← c.index-rows-r.is) c.right.ensures.once);
    }
