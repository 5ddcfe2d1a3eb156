use Rattle.std.proofs.Common.{◌≡◌, ◌+◌, ◌-◌, ◌≤◌, ◌+ℤ◌, ℕ, ℤ, length, sym, ap, ◌∙◌, to_z, arith}
use Rattle.std.specs.Int.{w128}
use Rattle.number_laws.specs.SignedSums.{total_below}
use Rattle.number_laws.proofs.SignedSumLaws.{abs-sum}
use Rattle.dual_bound.specs.inside.Systems.{earned_in}
use Rattle.dual_bound.proofs.RoomLaws.{blocks-more}
use Rattle.dual_bound.proofs.StoredNumbers.{read-mag}
use Rattle.dual_bound.proofs.sums.column_sum.Goals as goal
use Rattle.dual_bound.proofs.sums.column_sum.Goals.{then-count-from-lt-BLOCK, else-count-from-lt-BLOCK}

pub loop-from-preserved : goal.loop-from-preserved
loop-from-preserved c =
    let from = c.loop-from.from in
    let to = c.if-count-from-lt-BLOCK.to in
    let f = λ (j : ℕ). earned_in c.args.system.now c.args.multipliers.now c.args.q j in
    let order : (from ≤ to) × (to ≤ length c.ends-count.result.now) =
    elim c.if-count-from-lt-BLOCK.branch [
      | then-count-from-lt-BLOCK w ↦ (omega arith, omega arith)
      | else-count-from-lt-BLOCK w ↦ (omega arith, omega arith)
    ] in
    let whole = read-mag c.plus-sum.result c.plus-sum.type_inv in
    let part = read-mag c.block_sum.result c.block_sum.type_inv in
    let plus : c.plus-sum.result ≡ to_z w128 c.loop-from.sum-bits +ℤ c.block_sum.result = rw part at c.plus-sum.ensures in
    let before : to_z w128 c.loop-from.sum-bits ≡ total_below from f = c.loop-from.invariant.value in
    let block : c.block_sum.result ≡ total_below (to - from) (λ k. f (from + k)) = c.block_sum.ensures.value in
    let more = blocks-more f from to order.0 in
    let sizes = abs-sum (to_z w128 c.loop-from.sum-bits) c.block_sum.result in
    record {
      there = order.1;
      value = whole ∙ (plus ∙ (ap (λ (z : ℤ). z +ℤ c.block_sum.result) before ∙ (ap (λ (z : ℤ). total_below from f +ℤ z) block ∙ sym more)));
      size = rw (whole, plus) (omega (arith, sizes, c.loop-from.invariant.size, c.block_sum.ensures.size, order.0));
    }
