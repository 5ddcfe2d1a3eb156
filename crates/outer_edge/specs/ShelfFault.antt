-- What stands behind each fault of a read.
use Rattle.std.specs.Prelude.{⊤, Result, Ok, Err}
use Rattle.outer_edge.specs.declared.shelf.ShelfFault.{ShelfFault}
use Rattle.outer_edge.specs.declared.shelf.ShelfFault.TheVariants.{Failed, TooLong, Memory}

-- the cause, if the read failed
abbrev pub OnFailed : {T : Type 0} → Result T ShelfFault → Type 0 → Type 0
OnFailed (Err Failed) Cause = Cause
OnFailed (Err TooLong) Cause = ⊤
OnFailed (Err Memory) Cause = ⊤
OnFailed (Ok x) Cause = ⊤

-- the cause, if the file was too long
abbrev pub OnTooLong : {T : Type 0} → Result T ShelfFault → Type 0 → Type 0
OnTooLong (Err TooLong) Cause = Cause
OnTooLong (Err Failed) Cause = ⊤
OnTooLong (Err Memory) Cause = ⊤
OnTooLong (Ok x) Cause = ⊤

-- the fact, unless the read failed
abbrev pub UnlessFailed : {T : Type 0} → Result T ShelfFault → Type 0 → Type 0
UnlessFailed (Err Failed) Fact = ⊤
UnlessFailed (Err TooLong) Fact = Fact
UnlessFailed (Err Memory) Fact = Fact
UnlessFailed (Ok x) Fact = Fact

-- the fact, unless the file was too long
abbrev pub UnlessTooLong : {T : Type 0} → Result T ShelfFault → Type 0 → Type 0
UnlessTooLong (Err TooLong) Fact = ⊤
UnlessTooLong (Err Failed) Fact = Fact
UnlessTooLong (Err Memory) Fact = Fact
UnlessTooLong (Ok x) Fact = Fact
