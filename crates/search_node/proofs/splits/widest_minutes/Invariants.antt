use Rattle.std.proofs.Common.{All, take, MatchOption}
use Rattle.search_node.specs.inside.Splitting.{HasOneTime, IsGood}
use Rattle.search_node.proofs.splits.widest_minutes.Given as goal

-- as of all slots, of those so far
abbrev pub invariant-loop-i : goal.invariant-loop-i
invariant-loop-i l = MatchOption l.best (All HasOneTime (take l.i l.bx)) (λ cut. IsGood l.bx cut.split)
