-- Chains over the boxes of a search.
use Rattle.std.specs.Prelude.{ℕ, Option, List}
use Rattle.slot_box.specs.declared.slot.Slot.{Slot}
use Rattle.slot_box.specs.declared.split.Split.{Split}
use Rattle.slot_box.specs.Boxes.{IsBox}
use Rattle.slot_box.specs.Splits.{IsLawfulSplit, left_of, right_of}
use Rattle.work_chains.specs.Chains.{Noted, AreChains, AreSettled}

-- a task: the number of a node, and its box
abbrev pub BoxTask : Type 0
BoxTask = ℕ × List Slot

-- a note of a node with its box
abbrev pub BoxNote : Type 0
BoxNote = Noted (List Slot) Split

-- the split is lawful on the box
pub record DividesBox (slots : List Slot) (split : Split) : Type 0 where
  pub box : IsBox slots
  pub lawful : IsLawfulSplit slots split

-- chains of tasks with boxes, each node divided by a split that is lawful on its box
abbrev pub AreBoxChains : List BoxTask → List BoxNote → List BoxTask → Option BoxTask → Type 0
AreBoxChains taken notes handed hand = AreChains DividesBox left_of right_of taken notes handed hand

-- notes of a whole search tree over a root box
abbrev pub AreSettledFrom : List Slot → List BoxNote → ℕ → Type 0
AreSettledFrom root notes t = AreSettled left_of right_of root notes t
