use Rattle.std.proofs.Common.{take}
use Rattle.crude_run.specs.Searched.{IsGreatestNoted}
use Rattle.crude_run.proofs.search.greatest_noted.Given as goal

abbrev pub invariant-loop-note : goal.invariant-loop-note
invariant-loop-note l = IsGreatestNoted (take l.note-index l.notes) l.bound
