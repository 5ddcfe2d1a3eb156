-- What is known of a box on the way to its split.
use Rattle.std.specs.Prelude.{◌≡◌, ◌⊎◌, ℕ, ◌≤◌, List, length, Option, Some, None, IfSome, bit_and, count_ones}
use Rattle.slot_box.specs.declared.slot.Slot.{Slot}
use Rattle.slot_box.specs.declared.split.Split.{Split}
use Rattle.slot_box.specs.Boxes.{slot_at}
use Rattle.slot_box.specs.Slots.{live_of, operations_of}
use Rattle.slot_box.specs.Splits.{IsLawfulSplit}
use Rattle.search_node.specs.declared.splits.Cut.{Cut}
use Rattle.slot_box.specs.Even.{IsEvenSplit}

-- each member of the first set is one of the second
abbrev pub IsPartOf : ℕ → ℕ → Type 0
IsPartOf set whole = bit_and whole set ≡ set

-- the slot of this number is one of the box, and has two live entries or more
pub record MayChoose (box : List Slot) (i : ℕ) : Type 0 where
  pub from_one : 1 ≤ i
  pub there : i ≤ length box
  pub several : 2 ≤ count_ones (live_of (slot_at box i))

-- the slot has one live entry
abbrev pub HasOneEntry : Slot → Type 0
HasOneEntry s = count_ones (live_of s) ≡ 1

-- the slot cannot be idle
abbrev pub Runs : Slot → Type 0
Runs s = operations_of s ≡ live_of s

-- where the slot runs an operation, it has one volume
abbrev pub HasOneVolume : Slot → Type 0
HasOneVolume s = Runs s → s.volume.lo ≡ s.volume.hi

-- likewise a start
abbrev pub HasOneStart : Slot → Type 0
HasOneStart s = Runs s → s.start.lo ≡ s.start.hi

-- and an end
abbrev pub HasOneEnd : Slot → Type 0
HasOneEnd s = Runs s → s.end.lo ≡ s.end.hi

-- both
pub record HasOneTime (s : Slot) : Type 0 where
  pub start : HasOneStart s
  pub end : HasOneEnd s

-- the split is lawful and cuts its interval in the middle
pub record IsGood (box : List Slot) (split : Split) : Type 0 where
  pub lawful : IsLawfulSplit box split
  pub even : IsEvenSplit box split

-- what was found when more was looked at: nothing only where nothing was found before and the rest has one number, else
-- what was found before or a good cut
pub record Follows (OneNumber : Type 0) (box : List Slot) (before now : Option Cut) : Type 0 where
  pub none : now ≡ None → (before ≡ None) × OneNumber
  pub some : IfSome now (λ cut. (before ≡ Some cut) ⊎ IsGood box cut.split)
