use Rattle.std.proofs.Common.{All, take, MatchOption}
use Rattle.search_node.specs.inside.Splitting.{HasOneVolume, IsGood}
use Rattle.search_node.proofs.splits.widest_volume.Given as goal

-- as of all slots, of those so far
abbrev pub invariant-loop-i : goal.invariant-loop-i
invariant-loop-i l = MatchOption l.best (All HasOneVolume (take l.i l.bx)) (λ cut. IsGood l.bx cut.split)
