-- How much of a reader is read.
use Rattle.std.specs.Prelude.{ℕ, ◌≤◌, List, length, Option}
use Rattle.std.specs.Io.KnownBytes.{Consumes}

-- of the bytes that a reader has left, where they are known, at most so many were read
abbrev pub ConsumesAtMost : Option (List ℕ) → Option (List ℕ) → ℕ → Type 0
ConsumesAtMost old new most = (read : List ℕ) × Consumes old new read × (length read ≤ most)
