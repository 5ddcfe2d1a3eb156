use Rattle.std.proofs.Common.{◌≡◌, ◌++◌, drop}
use Rattle.search_gather.specs.Numbered.{cuts_of}
use Rattle.search_gather.proofs.joining.all_cuts.Given as goal

-- what is there and what is left make the whole
abbrev pub invariant-loop-cuts : goal.invariant-loop-cuts
invariant-loop-cuts l = l.all ++ cuts_of (drop l.cuts-index l.lists) ≡ cuts_of l.lists
