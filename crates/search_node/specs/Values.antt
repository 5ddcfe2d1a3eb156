-- What each value of a box owes: it is no greater than what its parent's entries give, nor than what any plain guess
-- gives, and no less than the least value that is told.
use Rattle.std.specs.Prelude.{◌^◌, ℤ, pos, neg_ℤ, ◌≤ℤ◌, Bool, List, filter}
use Rattle.slot_box.specs.declared.term.Term.{Term}
use Rattle.slot_box.specs.declared.term.Term.TheVariants.{Row, Cut}
use Rattle.slot_box.specs.Tasks.{TaskParts}
use Rattle.leaf_value.specs.LeafValue.{dual_value_of}
use Rattle.leaf_value.specs.PlainGuesses.{IsBelowPlainGuesses}
use Rattle.leaf_value.specs.Settings.{Setting, has_row, has_cut_row}

-- ---- the parent's entries

-- the row that an entry names is there
abbrev pub is_there : Setting → Term → Bool
is_there setting (Row name y) = has_row setting name
is_there setting (Cut cut slot op y) = has_cut_row setting cut slot op

-- the entries whose row is there
abbrev pub entries_there : Setting → List Term → List Term
entries_there setting entries = filter (is_there setting) entries

-- the value that these of a task's entries give its box, over the task's denominator
abbrev pub warm_value : Setting → TaskParts → ℤ
warm_value setting task = dual_value_of setting task.box task.q (entries_there setting task.entries)

-- ---- all values

-- the least value that is told
abbrev pub least_value : ℤ
least_value = neg_ℤ (pos (2 ^ 62))

-- a value of a task's box
pub record IsValueFor (setting : Setting) (task : TaskParts) (value : ℤ) : Type 0 where
  pub warm : value ≤ℤ warm_value setting task
  pub plain : IsBelowPlainGuesses setting task.box value
  pub least : least_value ≤ℤ value
