-- What one worker hands to another.
use Rattle.std.specs.Prelude.{ℕ, ◌≤◌, List, length, All}
use Rattle.limits.specs.declared.TheConstants.{MOST_MULTIPLIER, MOST_ROWS}
use Rattle.slot_box.specs.declared.slot.Slot.{Slot}
use Rattle.slot_box.specs.declared.term.Term.{Term}
use Rattle.slot_box.specs.declared.term.Term.TheVariants.{Row, Cut}
use Rattle.slot_box.specs.Boxes.{IsBox}

-- a node of the search tree that is still to be examined: its number, its box, and the denominator and entries of its
-- parent's leaf
pub record TaskParts : Type 0 where
  pub id : ℕ
  pub box : List Slot
  pub q : ℕ
  pub entries : List Term

-- the task of these
abbrev pub task_of : ℕ → List Slot → ℕ → List Term → TaskParts
task_of id box q entries = record { id = id; box = box; q = q; entries = entries }

-- the multiplier of an entry
abbrev pub multiplier_of : Term → ℕ
multiplier_of (Row name y) = y
multiplier_of (Cut cut slot op y) = y

-- it is within its limit
abbrev pub HasSmallMultiplier : Term → Type 0
HasSmallMultiplier term = multiplier_of term ≤ MOST_MULTIPLIER

-- entries to start from: no more than a leaf may name, each with a multiplier within its limit
pub record IsWarmStart (entries : List Term) : Type 0 where
  pub few : length entries ≤ MOST_ROWS
  pub multipliers : All HasSmallMultiplier entries

-- what every task keeps: its denominator and its entries are within their limits
pub record IsTask (task : TaskParts) : Type 0 where
  pub box : IsBox task.box
  pub some_q : 1 ≤ task.q
  pub most_q : task.q ≤ MOST_MULTIPLIER
  pub warm : IsWarmStart task.entries
