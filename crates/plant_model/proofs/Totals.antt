-- A running total in 128 bits.
use Rattle.std.proofs.Common.{◌≡◌, ◌∙◌, sym, ap, ℕ, ◌+◌, ◌*◌, ◌^◌, ◌<◌, List, length, get_or, take, arith}
use Rattle.std.proofs.lemmas.Int.{ints}
use Rattle.std.proofs.lemmas.List.Sums.{fold_more}
use Rattle.std.specs.Prelude.{ℤ, pos, neg_ℤ, ◌+ℤ◌, ◌≤ℤ◌}
use Rattle.plant_model.specs.Faults.{total_of}
use mir.Syntax.{w64, w128}
use mir.Val.{SFits, of_z, to_z}

-- one more number of 64 bits
pub record OneMore (total number : ℤ) (k : ℕ) : Type 0 where
  pub fits : to_z w128 (of_z w128 (total +ℤ to_z w128 (of_z w128 number))) ≡ total +ℤ number
  pub low : neg_ℤ (pos ((k + 1) * 2 ^ 63)) ≤ℤ (total +ℤ number)
  pub high : (total +ℤ number) ≤ℤ pos ((k + 1) * 2 ^ 63)

pub one_more : (total number : ℤ) (k : ℕ) → neg_ℤ (pos (k * 2 ^ 63)) ≤ℤ total → total ≤ℤ pos (k * 2 ^ 63) → SFits w64 number → k < 2 ^ 60
    → OneMore total number k
one_more total number k low high fits few = record {
  fits = omega (arith, ints);
  low = omega (arith, ints);
  high = omega (arith, ints);
}

pub total_more : (numbers : List ℤ) (i : ℕ) (total : ℤ) → i < length numbers → total ≡ total_of (take i numbers)
    → total +ℤ get_or numbers i (pos 0) ≡ total_of (take (i + 1) numbers)
total_more numbers i total within so_far = ap (λ z. z +ℤ get_or numbers i (pos 0)) so_far ∙ sym (fold_more ◌+ℤ◌ (pos 0) numbers i (pos 0) within)
