use Rattle.std.proofs.Common.{◌≡◌, ◌++◌, drop, map}
use Rattle.search_gather.specs.Numbered.{term_numbered}
use Rattle.search_gather.proofs.joining.terms_numbered.Given as goal

-- what is there and what is left make the whole
abbrev pub invariant-loop-term : goal.invariant-loop-term
invariant-loop-term l =
    l.numbered ++ map (term_numbered l.from l.cuts) (drop l.term-index l.terms) ≡ map (term_numbered l.from l.cuts) l.terms
