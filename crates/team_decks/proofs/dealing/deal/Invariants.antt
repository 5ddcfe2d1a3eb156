use Rattle.std.specs.Prelude.{◌≡◌, List, length}
use Rattle.task_deck.specs.declared.ends.Door.{Door}
use Rattle.team_decks.specs.inside.Dealt.{IsDealing}
use Rattle.team_decks.proofs.dealing.deal.Given as goal

abbrev pub invariant-loop-worker : goal.invariant-loop-worker
invariant-loop-worker l = record {
  dealing : (doors : List Door) → IsDealing doors l.number 0 l.fn.owner l.fn.rows → IsDealing doors l.number l.worker l.owner l.rows;
  workers : length l.rows ≡ length l.fn.rows;
}
