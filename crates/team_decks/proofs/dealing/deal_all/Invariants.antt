use Rattle.team_decks.specs.inside.Dealt.{AreDealtSoFar}
use Rattle.team_decks.proofs.dealing.deal_all.Given as goal

abbrev pub invariant-loop-number : goal.invariant-loop-number
invariant-loop-number l = AreDealtSoFar l.number l.workers l.doors l.owners l.rows
