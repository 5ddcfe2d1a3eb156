use Rattle.std.proofs.Common.{◌≡◌, ◌*◌, ◌^◌, sum, take, pos, neg_ℤ, ◌≤ℤ◌}
use Rattle.crude_amounts.specs.Amounts.{weighted_of}
use Rattle.crude_amounts.proofs.cells.weigh.Given as goal

abbrev pub invariant-loop-c : goal.invariant-loop-c
invariant-loop-c l = record {
  done : l.sum ≡ weighted_of (take l.c l.cells) l.weights;
  low : neg_ℤ (pos (2 ^ 63 * sum (take l.c l.cells))) ≤ℤ l.sum;
  high : l.sum ≤ℤ pos (2 ^ 63 * sum (take l.c l.cells));
}
