-- The least and the greatest number of each column.
use Rattle.std.specs.Prelude.{◌≡◌, ◌≢◌, List, pos, slice_index_or}
use Rattle.linear_form.specs.declared.column.Column.{Column}
use Rattle.linear_form.specs.declared.ranges.Interval.{Interval}
use Rattle.linear_form.specs.Columns.{Extent, IsColumn, number_of}

-- an interval for each column, in the columns' order
pub record Bounds : Type 0 where
  pub extent : Extent
  pub ends : List Interval

-- 0 alone
abbrev pub zero_alone : Interval
zero_alone = record { lo = pos 0; hi = pos 0 }

-- the numbers of a column
abbrev pub range_of : Bounds → Column → Interval
range_of bounds column = slice_index_or bounds.ends (number_of bounds.extent column) zero_alone

-- every other column has the range that it had
abbrev pub KeepsOthers : Column → Bounds → Bounds → Type 0
KeepsOthers column old new =
    (other : Column) → IsColumn old.extent other → other ≢ column → range_of new other ≡ range_of old other
