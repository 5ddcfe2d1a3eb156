use Rattle.std.proofs.Common.{◌≡◌, ◌+◌, drop}
use Rattle.search_gather.specs.Numbered.{number_in}
use Rattle.search_gather.proofs.joining.number_in.Given as goal

-- none of the first cuts has the name
abbrev pub invariant-loop-cut : goal.invariant-loop-cut
invariant-loop-cut l = record {
  value : number_in l.number (drop l.cut-index l.cuts) l.name ≡ number_in l.from l.cuts l.name;
  number : l.number ≡ l.from + l.cut-index;
}
