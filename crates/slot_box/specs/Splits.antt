-- How a box is divided in two.
use Rattle.std.specs.Prelude.{ℕ, ◌-◌, ◌<◌, ◌≤◌, Bool, ◌&&◌, nat_lt, nat_le, List, length, slice_set, ◌⊎◌, IsBitSet, bit_and}
use Rattle.slot_box.specs.declared.slot.Span.{Span}
use Rattle.slot_box.specs.declared.slot.Slot.{Slot}
use Rattle.slot_box.specs.declared.split.SplitKind.{SplitKind}
use Rattle.slot_box.specs.declared.split.SplitKind.TheVariants.{Ops, Volume, Start, End}
use Rattle.slot_box.specs.declared.split.Split.{Split}
use Rattle.slot_box.specs.Boxes.{IsPoint, HasPoint, slot_at, entry_at}
use Rattle.slot_box.specs.Entries.{Entry, bit_of, volume_of, start_of, end_of}
use Rattle.slot_box.specs.Slots.{span, operations_of, live_of}

-- the entry goes to the left part: it is of the set, or its volume (start, end) is below the number
abbrev pub GoesLeft : SplitKind → Entry → Type 0
GoesLeft (Ops set) e = IsBitSet set (bit_of e)
GoesLeft (Volume x) e = volume_of e < x
GoesLeft (Start x) e = start_of e < x
GoesLeft (End x) e = end_of e < x

-- the split divides the box: its slot is one of the box, and some point goes left and some point right
pub record IsLawfulSplit (slots : List Slot) (split : Split) : Type 0 where
  pub from_one : 1 ≤ split.slot
  pub there : split.slot ≤ length slots
  pub left : (point : List Entry) × IsPoint slots point × GoesLeft split.kind (entry_at point split.slot)
  pub right : (point : List Entry) × IsPoint slots point × (¬ (GoesLeft split.kind (entry_at point split.slot)))

-- the left half of a slot keeps the entries of the set, or the numbers up to x - 1
abbrev pub left_half : Slot → SplitKind → Slot
left_half s (Ops set) = record s { ops = bit_and s.ops set }
left_half s (Volume x) = record s { volume = span s.volume.lo (x - 1) }
left_half s (Start x) = record s { start = span s.start.lo (x - 1) }
left_half s (End x) = record s { end = span s.end.lo (x - 1) }

-- the right half keeps the other entries, or the numbers from x on
abbrev pub right_half : Slot → SplitKind → Slot
right_half s (Ops set) = record s { ops = s.ops - bit_and s.ops set }
right_half s (Volume x) = record s { volume = span x s.volume.hi }
right_half s (Start x) = record s { start = span x s.start.hi }
right_half s (End x) = record s { end = span x s.end.hi }

-- a part of the box has the half in place of the slot that is divided
abbrev pub left_of : List Slot → Split → List Slot
left_of slots split = slice_set slots (split.slot - 1) (left_half (slot_at slots split.slot) split.kind)

-- likewise
abbrev pub right_of : List Slot → Split → List Slot
right_of slots split = slice_set slots (split.slot - 1) (right_half (slot_at slots split.slot) split.kind)

-- each point of the box is a point of exactly one of the two parts, each point of a part is a point of
-- the box and goes to its side, and both parts have a point
pub record IsPartition (slots : List Slot) (split : Split) (left right : List Slot) : Type 0 where
  pub covers : (point : List Entry) → IsPoint slots point → IsPoint left point ⊎ IsPoint right point
  pub apart : (point : List Entry) → IsPoint left point → ¬ (IsPoint right point)
  pub left_within : (point : List Entry) → IsPoint left point → IsPoint slots point
  pub right_within : (point : List Entry) → IsPoint right point → IsPoint slots point
  pub goes_left : (point : List Entry) → IsPoint left point → GoesLeft split.kind (entry_at point split.slot)
  pub goes_right : (point : List Entry) → IsPoint right point → ¬ (GoesLeft split.kind (entry_at point split.slot))
  pub left_point : HasPoint left
  pub right_point : HasPoint right

-- whether a number of the span lies below x, and another does not
abbrev pub is_cut_by : Span → ℕ → Bool
is_cut_by s x = nat_lt s.lo x && nat_le x s.hi

-- whether the kind divides the slot: of its live entries some are in the set, and not all; or its interval
-- has numbers on both sides, and it has an operation, since idle is 0 alone
abbrev pub divides : Slot → SplitKind → Bool
divides s (Ops set) = nat_lt 0 (bit_and (live_of s) set) && nat_lt (bit_and (live_of s) set) (live_of s)
divides s (Volume x) = is_cut_by s.volume x && nat_lt 0 (operations_of s)
divides s (Start x) = is_cut_by s.start x && nat_lt 0 (operations_of s)
divides s (End x) = is_cut_by s.end x && nat_lt 0 (operations_of s)

-- whether the split is lawful
abbrev pub is_lawful : List Slot → Split → Bool
is_lawful slots split =
    nat_le 1 split.slot && nat_le split.slot (length slots) && divides (slot_at slots split.slot) split.kind
