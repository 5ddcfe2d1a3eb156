use Rattle.std.proofs.Common.{take}
use Rattle.crude_run.specs.Searched.{IsGreatestNoted, all_noted}
use Rattle.crude_run.proofs.search.greatest_of_all.Given as goal

abbrev pub invariant-loop-notes : goal.invariant-loop-notes
invariant-loop-notes l = IsGreatestNoted (all_noted (take l.notes-index l.lists)) l.bound
