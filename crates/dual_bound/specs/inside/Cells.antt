-- Cells: a running sum for each of some neighbouring columns.
use Rattle.std.specs.Prelude.{◌≡◌, ℕ, ◌*◌, ◌<◌, ◌≤◌, List, length, ℤ, pos, ◌+ℤ◌, slice_index_or, unsigned_abs, ◌^◌}
use Rattle.linear_form.specs.declared.row.RowTerm.{RowTerm}
use Rattle.linear_form.specs.declared.ranges.Interval.{Interval}
use Rattle.linear_form.specs.Bounds.{zero_alone}
use Rattle.linear_form.specs.Columns.{Extent}
use Rattle.dual_bound.specs.Conditions.{reach_of}
use Rattle.dual_bound.specs.Dual.{factor_of}

-- each cell has the amount of its place more than before
pub record Adds (amount : ℕ → ℤ) (old new : List ℤ) : Type 0 where
  pub as_many : length new ≡ length old
  pub each : (k : ℕ) → k < length old → slice_index_or new k (pos 0) ≡ slice_index_or old k (pos 0) +ℤ amount k

-- no cell is past the limit
abbrev pub AreWithin : ℕ → List ℤ → Type 0
AreWithin limit cells = (k : ℕ) → k < length cells → unsigned_abs (slice_index_or cells k (pos 0)) ≤ limit

-- no column's factor is past that of a number of 64 bits
abbrev pub HasSmallFactors : Extent → List RowTerm → Type 0
HasSmallFactors extent terms = (j : ℕ) → unsigned_abs (factor_of extent j terms) ≤ 2 ^ 63

-- each weight has room in its range
abbrev pub HaveRoom : List Interval → List ℤ → Type 0
HaveRoom ranges weights =
    (k : ℕ) → k < length ranges →
    unsigned_abs (slice_index_or weights k (pos 0)) * reach_of (slice_index_or ranges k zero_alone) ≤ 2 ^ 104

-- each cell holds the number of its place
abbrev pub Hold : (ℕ → ℤ) → List ℤ → Type 0
Hold number cells = (k : ℕ) → k < length cells → slice_index_or cells k (pos 0) ≡ number k
