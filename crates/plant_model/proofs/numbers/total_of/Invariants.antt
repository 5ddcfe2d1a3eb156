use Rattle.std.proofs.Common.{◌≡◌, ◌*◌, ◌^◌, take}
use Rattle.std.specs.Prelude.{pos, neg_ℤ, ◌≤ℤ◌}
use Rattle.plant_model.specs.Faults.{total_of}
use Rattle.plant_model.proofs.numbers.total_of.Given as goal

-- the total of the numbers so far, none of which is past the ends of its type
abbrev pub invariant-loop-number : goal.invariant-loop-number
invariant-loop-number l = record {
  so_far : l.total ≡ total_of (take l.number-index l.numbers);
  low : neg_ℤ (pos (l.number-index * 2 ^ 63)) ≤ℤ l.total;
  high : l.total ≤ℤ pos (l.number-index * 2 ^ 63);
}
