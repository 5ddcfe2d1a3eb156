-- What one slot of a box allows.
use Rattle.std.specs.Prelude.{◌≡◌, ℕ, ◌+◌, ◌-◌, ◌*◌, ◌%◌, ◌^◌, ◌<◌, ◌≤◌, Bool, ◌==◌, nat_lt, nat_le, ◌&&◌, if◌then◌else◌, IsTrue, Option, Some, None, IsBitSet, count_ones}
use Rattle.std.specs.Int.{w64, is_power_of_two, trailing_zeros}
use Rattle.limits.specs.declared.TheConstants.{MOST_HORIZON, MOST_OPERATIONS, MOST_VOLUME}
use Rattle.slot_box.specs.declared.slot.Span.{Span}
use Rattle.slot_box.specs.declared.slot.Slot.{Slot}

-- the numbers from lo to hi
abbrev pub span : ℕ → ℕ → Span
span lo hi = record { lo = lo; hi = hi }

-- the number lies in the span
abbrev pub IsWithin : ℕ → Span → Type 0
IsWithin x s = (s.lo ≤ x) × (x ≤ s.hi)

-- how many numbers lie in the span
abbrev pub size_of : Span → ℕ
size_of s = s.hi + 1 - s.lo

-- the span is not empty and ends at the limit or before
abbrev pub IsSpanUpTo : ℕ → Span → Type 0
IsSpanUpTo limit s = (s.lo ≤ s.hi) × (s.hi ≤ limit)

-- the number of idle in a set of entries; an operation has its own number there
abbrev pub idle_bit : ℕ
idle_bit = 63

-- the operations of a slot's set, without idle
abbrev pub operations_of : Slot → ℕ
operations_of s = s.ops % 2 ^ 63

-- whether 0 lies in all three intervals, as idle needs, whose volume, start and end are 0
abbrev pub has_zeros : Slot → Bool
has_zeros s = (s.volume.lo == 0) && (s.start.lo == 0) && (s.end.lo == 0)

-- an entry of this number is live: it is in the set, and for idle 0 lies in all three intervals
pub record IsLive (s : Slot) (bit : ℕ) : Type 0 where
  pub there : IsBitSet s.ops bit
  pub zeros : bit ≡ idle_bit → IsTrue (has_zeros s)

-- the set of the live entries
abbrev pub live_of : Slot → ℕ
live_of s = if has_zeros s then s.ops else operations_of s

-- the slot is fixed to an operation: that operation is its one live entry
pub record IsFixedTo (s : Slot) (op : ℕ) : Type 0 where
  pub operation : op < idle_bit
  pub alone : live_of s ≡ 2 ^ op

-- the operation to which the slot is fixed, where it is
abbrev pub fixed_of : Slot → Option ℕ
fixed_of s =
    if is_power_of_two (live_of s) && nat_lt (live_of s) (2 ^ idle_bit)
    then Some (trailing_zeros w64 (live_of s)) else None

-- in how many ways the slot can be filled: an operation with a volume, a start and an end, or idle
abbrev pub ways_of : Slot → ℕ
ways_of s =
    count_ones (operations_of s) * size_of s.volume * size_of s.start * size_of s.end
    + (if nat_le (2 ^ idle_bit) (live_of s) then 1 else 0)

-- the limits of a slot: its intervals are not empty, and stay within the limits of volumes and
-- minutes; it has some live entry, and no operation past those that a plant may have
pub record IsSlot (s : Slot) : Type 0 where
  pub volume : IsSpanUpTo MOST_VOLUME s.volume
  pub start : IsSpanUpTo MOST_HORIZON s.start
  pub end : IsSpanUpTo MOST_HORIZON s.end
  pub set : s.ops < 2 ^ 64
  pub known : operations_of s < 2 ^ MOST_OPERATIONS
  pub live : 0 < live_of s
