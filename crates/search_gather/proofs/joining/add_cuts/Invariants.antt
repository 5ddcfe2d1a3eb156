use Rattle.std.proofs.Common.{◌≡◌, ◌++◌, drop}
use Rattle.search_gather.specs.Numbered.{params_of}
use Rattle.search_gather.proofs.joining.add_cuts.Given as goal

-- what is there and what is left make the whole
abbrev pub invariant-loop-cut : goal.invariant-loop-cut
invariant-loop-cut l = l.all ++ params_of (drop l.cut-index l.cuts) ≡ l.fn.all ++ params_of l.cuts
