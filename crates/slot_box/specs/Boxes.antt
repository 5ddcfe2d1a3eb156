-- Boxes, as the lists of their slots, and their points.
use Rattle.std.specs.Prelude.{◌≡◌, ℕ, ◌+◌, ◌-◌, ◌*◌, ◌^◌, ◌<◌, ◌≤◌, Option, Some, None, List, [], ◌∷◌, length, replicate, slice_index_or, All, map}
use Rattle.std.specs.List.{AllZip}
use Rattle.limits.specs.declared.TheConstants.{MOST_SLOTS}
use Rattle.slot_box.specs.declared.slot.Slot.{Slot}
use Rattle.slot_box.specs.Entries.{Entry, idle, runs, bit_of, LiesIn}
use Rattle.slot_box.specs.Slots.{IsSlot, span, operations_of, fixed_of, ways_of}

-- what every box keeps: some slots, no more than a search may have, each within the limits and with a live entry
pub record IsBox (slots : List Slot) : Type 0 where
  pub some_slots : 1 ≤ length slots
  pub most_slots : length slots ≤ MOST_SLOTS
  pub each : All IsSlot slots

-- past the last slot: no entry at all
abbrev pub no_slot : Slot
no_slot = record { ops = 0; volume = span 0 0; start = span 0 0; end = span 0 0 }

-- the slot of this number, from 1
abbrev pub slot_at : List Slot → ℕ → Slot
slot_at slots i = slice_index_or slots (i - 1) no_slot

-- a point of a box has one entry for each slot, which lies in it
abbrev pub IsPoint : List Slot → List Entry → Type 0
IsPoint slots point = AllZip LiesIn slots point

-- the entry of a point for the slot of this number, from 1
abbrev pub entry_at : List Entry → ℕ → Entry
entry_at point i = slice_index_or point (i - 1) idle

-- some list of entries is a point of the box
abbrev pub HasPoint : List Slot → Type 0
HasPoint slots = (point : List Entry) × IsPoint slots point

-- exactly one is
abbrev pub HasOnePoint : List Slot → Type 0
HasOnePoint slots =
    (point : List Entry) × IsPoint slots point × ((other : List Entry) → IsPoint slots other → other ≡ point)

-- how many points the box has: each slot is filled by itself
abbrev pub points_of : List Slot → ℕ
points_of [] = 1
points_of (s ∷ slots) = ways_of s * points_of slots

-- the entry of a slot that can be filled in one way only: the operation to which it is fixed, with its
-- least numbers, or idle
abbrev pub only_entry : Slot → Entry
only_entry s = running (fixed_of s) s
  where
    running : Option ℕ → Slot → Entry
    running None s = idle
    running (Some op) s = runs op s.start.lo s.end.lo s.volume.lo

-- the point of a box that has no other
abbrev pub only_point : List Slot → List Entry
only_point slots = map only_entry slots

-- the operations to which the slots are fixed one after the other, as far as the first that is not fixed
abbrev pub fixed_prefix : List Slot → List ℕ
fixed_prefix [] = []
fixed_prefix (s ∷ slots) = prefix_from (fixed_of s) (fixed_prefix slots)
  where
    prefix_from : Option ℕ → List ℕ → List ℕ
    prefix_from None ops = []
    prefix_from (Some op) ops = op ∷ ops

-- all operations and idle, and all volumes and minutes from 0 on
abbrev pub whole_slot : ℕ → ℕ → ℕ → Slot
whole_slot ops volume horizon =
    record { ops = 2 ^ 63 + (2 ^ ops - 1); volume = span 0 volume; start = span 0 horizon; end = span 0 horizon }

-- the root box: each of its n slots is whole
abbrev pub root_of : ℕ → ℕ → ℕ → ℕ → List Slot
root_of n ops volume horizon = replicate n (whole_slot ops volume horizon)

-- the slot's set and intervals lie within those of a slot of the root box
pub record IsSlotOfRoot (ops volume horizon : ℕ) (s : Slot) : Type 0 where
  pub set : operations_of s < 2 ^ ops
  pub volume_end : s.volume.hi ≤ volume
  pub start_end : s.start.hi ≤ horizon
  pub end_end : s.end.hi ≤ horizon

-- the box lies within the root box of as many slots
abbrev pub IsWithinRoot : ℕ → ℕ → ℕ → List Slot → Type 0
IsWithinRoot ops volume horizon slots = All (IsSlotOfRoot ops volume horizon) slots

-- the part lies within each root box within which the whole does
abbrev pub StaysWithinRoot : List Slot → List Slot → Type 0
StaysWithinRoot whole part =
    (ops volume horizon : ℕ) → IsWithinRoot ops volume horizon whole → IsWithinRoot ops volume horizon part

-- whatever point of the box it is, the slot of this number runs the operation
abbrev pub RunsAlways : List Slot → ℕ → ℕ → Type 0
RunsAlways slots i op = (point : List Entry) → IsPoint slots point → bit_of (entry_at point i) ≡ op
