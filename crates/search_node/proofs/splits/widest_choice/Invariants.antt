use Rattle.std.proofs.Common.{◌≡◌, ◌≤◌, All, take, MatchOption}
use Rattle.search_node.specs.inside.Splitting.{HasOneEntry, MayChoose}
use Rattle.search_node.proofs.splits.widest_choice.Given as goal

-- each slot so far has one live entry, or one that has more was found
abbrev pub invariant-loop-i : goal.invariant-loop-i
invariant-loop-i l =
    record {
      some : 1 ≤ l.most;
      found : MatchOption l.widest ((l.most ≡ 1) × All HasOneEntry (take l.i l.bx)) (MayChoose l.bx);
    }
