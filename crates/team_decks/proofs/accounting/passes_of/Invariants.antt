use Rattle.std.specs.Prelude.{◌≡◌, ◌+◌, List, length}
use Rattle.task_deck.specs.declared.ends.Door.{Door}
use Rattle.team_decks.specs.Rows.{AreRows}
use Rattle.team_decks.specs.inside.Dealt.{IsReturning}
use Rattle.team_decks.proofs.accounting.passes_of.Given as goal

abbrev pub invariant-loop-worker : goal.invariant-loop-worker
invariant-loop-worker l = record {
  workers : length l.rows ≡ length l.fn.rows;
  returning : (doors : List Door) → AreRows doors (λ worker. l.number + 1) l.fn.rows →
      IsReturning doors l.number l.worker l.fn.rows l.rows l.passes;
}
