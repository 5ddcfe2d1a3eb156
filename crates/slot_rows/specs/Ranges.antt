-- The ranges that a box gives the columns of its forms.
use Rattle.std.specs.Prelude.{ℕ, ◌^◌, Bool, ◌==◌, if◌then◌else◌, List, map, length, pos}
use Rattle.std.specs.Int.{bit_at}
use Rattle.std.specs.List.{range_with_len}
use Rattle.linear_form.specs.declared.column.TheConstants.{IDLE_ENTRY}
use Rattle.linear_form.specs.declared.column.Column.{Column}
use Rattle.linear_form.specs.declared.column.Part.{Part}
use Rattle.linear_form.specs.declared.column.Part.TheVariants.{Z, A, S, E, W}
use Rattle.linear_form.specs.declared.ranges.Interval.{Interval}
use Rattle.linear_form.specs.Bounds.{Bounds}
use Rattle.linear_form.specs.Columns.{count_of, column_at}
use Rattle.plant_model.specs.declared.parts.Parts.{Parts}
use Rattle.plant_model.specs.Parts.{horizon_of}
use Rattle.row_forms.specs.Columns.{extent_of}
use Rattle.number_laws.specs.Sums.{when}
use Rattle.slot_box.specs.declared.slot.Slot.{Slot}
use Rattle.slot_box.specs.declared.slot.Span.{Span}
use Rattle.slot_box.specs.Boxes.{slot_at}
use Rattle.slot_box.specs.Slots.{span, idle_bit, live_of}

-- an entry that may fill the slot: from its least number where no other may, else from 0, which its numbers are where
-- another one fills the slot. What is drawn of one crude may be any part of the volume
abbrev pub live_span : Bool → Slot → Part → Span
live_span alone slot Z = span (when alone 1) 1
live_span alone slot (A crude) = span 0 slot.volume.hi
live_span alone slot S = span (when alone slot.start.lo) slot.start.hi
live_span alone slot E = span (when alone slot.end.lo) slot.end.hi
live_span alone slot W = span 0 0

-- the number of a column's entry in a set of entries
abbrev pub bit_of_entry : ℕ → ℕ
bit_of_entry entry = if entry == IDLE_ENTRY then idle_bit else entry

-- an entry by its number in the slot's set; where it is not live its numbers are 0
abbrev pub entry_span : Slot → ℕ → Part → Span
entry_span slot bit part =
    if bit_at (live_of slot) bit == 1 then live_span (live_of slot == 2 ^ bit) slot part else span 0 0

-- of a column; a vessel may wait for as long as the horizon
abbrev pub column_span : Parts → List Slot → Column → Span
column_span parts box column =
    if column.slot == 0
    then span 0 (horizon_of parts)
    else entry_span (slot_at box column.slot) (bit_of_entry column.entry) column.part

-- the same numbers, with a sign
abbrev pub interval_of : Span → Interval
interval_of s = record { lo = pos s.lo; hi = pos s.hi }

-- the range of each column, in the columns' order
unfoldable pub ranges_of : Parts → List Slot → Bounds
ranges_of parts box =
    let extent = extent_of parts (length box) in
    record {
      extent = extent;
      ends = map (λ j. interval_of (column_span parts box (column_at extent j))) (range_with_len 0 (count_of extent));
    }
