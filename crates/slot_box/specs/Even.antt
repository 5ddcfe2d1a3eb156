-- Even splits: an interval is cut in its middle, and of a slot's entries as many go left as go right, or one more or
-- less.
use Rattle.std.specs.Prelude.{◌≡◌, ℕ, ◌+◌, ◌-◌, ◌/◌, ◌≤◌, List, bit_and, count_ones}
use Rattle.slot_box.specs.declared.slot.Slot.{Slot}
use Rattle.slot_box.specs.declared.slot.Span.{Span}
use Rattle.slot_box.specs.declared.split.Split.{Split}
use Rattle.slot_box.specs.declared.split.SplitKind.{SplitKind}
use Rattle.slot_box.specs.declared.split.SplitKind.TheVariants.{Ops, Volume, Start, End}
use Rattle.slot_box.specs.Boxes.{slot_at}
use Rattle.slot_box.specs.Slots.{live_of}

-- the interval is cut in its middle
abbrev pub IsMiddle : Span → ℕ → Type 0
IsMiddle s x = x ≡ s.lo + (s.hi - s.lo + 1) / 2

-- the two numbers differ by at most one
abbrev pub AreHalves : ℕ → ℕ → Type 0
AreHalves left right = (left ≤ right + 1) × (right ≤ left + 1)

-- as many of the live entries are in the set as are not, or one more or less
abbrev pub HalvesEntries : ℕ → ℕ → Type 0
HalvesEntries live set = AreHalves (count_ones (bit_and live set)) (count_ones (live - bit_and live set))

-- the kind divides the slot evenly
abbrev pub DividesEvenly : Slot → SplitKind → Type 0
DividesEvenly s (Ops set) = HalvesEntries (live_of s) set
DividesEvenly s (Volume x) = IsMiddle s.volume x
DividesEvenly s (Start x) = IsMiddle s.start x
DividesEvenly s (End x) = IsMiddle s.end x

-- the split divides its slot of the box evenly
abbrev pub IsEvenSplit : List Slot → Split → Type 0
IsEvenSplit box split = DividesEvenly (slot_at box split.slot) split.kind
