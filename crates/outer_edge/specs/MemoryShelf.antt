-- What a shelf in memory does.
use Rattle.std.specs.Prelude.{◌≡◌, ℕ, List, length, Option, None, Some, Result, Ok, Err, nat_lt, if◌then◌else◌}
use Rattle.outer_edge.specs.Rose.{next_count}
use Rattle.outer_edge.specs.CallList.{is_listed}
use Rattle.outer_edge.specs.FileList.{file_named}
use Rattle.outer_edge.specs.declared.shelf.ShelfFault.{ShelfFault}
use Rattle.outer_edge.specs.declared.shelf.ShelfFault.TheVariants.{Failed, TooLong, Memory}

-- the files with their names, which calls fail, how many calls there were, and the two counts of faults
pub record Stock : Type 0 where
  pub files : List (List ℕ × List ℕ)
  pub failing : List ℕ
  pub calls : ℕ
  pub faults : ℕ
  pub longs : ℕ

-- a shelf of these files, as it begins
abbrev pub stock_of : List (List ℕ × List ℕ) → List ℕ → Stock
stock_of files failing = record { files = files; failing = failing; calls = 0; faults = 0; longs = 0 }

-- the file, if there is one and it has at most that many bytes
abbrev pub at_most : ℕ → Option (List ℕ) → Result (List ℕ) ShelfFault
at_most limit None = Err Failed
at_most limit (Some file) = if nat_lt limit (length file) then Err TooLong else Ok file

-- what the next read answers, want of memory aside
abbrev pub answer_of : Stock → List ℕ → ℕ → Result (List ℕ) ShelfFault
answer_of shelf name limit =
    if is_listed shelf.failing (next_count shelf.calls) then Err Failed else at_most limit (file_named shelf.files name)

-- the shelf after a read with that answer: one more call, and one more of the fault, if it was one
abbrev pub after_read : Stock → Result (List ℕ) ShelfFault → Stock
after_read shelf (Ok file) = record shelf { calls = next_count shelf.calls }
after_read shelf (Err Failed) = record shelf { calls = next_count shelf.calls; faults = next_count shelf.faults }
after_read shelf (Err TooLong) = record shelf { calls = next_count shelf.calls; longs = next_count shelf.longs }
after_read shelf (Err Memory) = record shelf { calls = next_count shelf.calls }

-- the fault that was due, or want of memory where bytes were due
abbrev pub IsFaultOf : Result (List ℕ) ShelfFault → ShelfFault → Type 0
IsFaultOf (Err due) fault = fault ≡ due
IsFaultOf (Ok file) fault = fault ≡ Memory
