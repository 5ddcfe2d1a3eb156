-- What fills one slot of a form.
use Rattle.std.specs.Prelude.{ℕ, ◌<◌, IsBitSet}
use Rattle.slot_box.specs.declared.slot.Slot.{Slot}
use Rattle.slot_box.specs.Slots.{IsWithin, idle_bit}

-- idle, or an operation with its start, its end and its volume
pub data Entry : Type 0 where
  idle : Entry
  runs : (op start end volume : ℕ) → Entry

-- the number of an entry in a set of entries
abbrev pub bit_of : Entry → ℕ
bit_of idle = idle_bit
bit_of (runs op start end volume) = op

-- the volume of an entry, 0 for idle
abbrev pub volume_of : Entry → ℕ
volume_of idle = 0
volume_of (runs op start end volume) = volume

-- likewise
abbrev pub start_of : Entry → ℕ
start_of idle = 0
start_of (runs op start end volume) = start

-- likewise
abbrev pub end_of : Entry → ℕ
end_of idle = 0
end_of (runs op start end volume) = end

-- what an entry needs to be an operation or idle
abbrev pub IsKnown : Entry → Type 0
IsKnown idle = Unit {0}
IsKnown (runs op start end volume) = op < idle_bit

-- the entry lies in the slot: it is of the set, and its three numbers lie in the intervals
pub record LiesIn (s : Slot) (e : Entry) : Type 0 where
  pub known : IsKnown e
  pub there : IsBitSet s.ops (bit_of e)
  pub volume : IsWithin (volume_of e) s.volume
  pub start : IsWithin (start_of e) s.start
  pub end : IsWithin (end_of e) s.end
