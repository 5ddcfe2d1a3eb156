use Rattle.std.specs.Prelude.{length}
use Rattle.team_decks.specs.inside.Dealt.{IsAccounting}
use Rattle.team_decks.proofs.accounting.account_all.Given as goal

abbrev pub decreases-loop-owner : goal.decreases-loop-owner
decreases-loop-owner l = length l.owners

abbrev pub invariant-loop-owner : goal.invariant-loop-owner
invariant-loop-owner l = IsAccounting l.doors l.fn.doors l.owners l.fn.owners l.fn.rows l.rows l.left
