use Rattle.std.specs.Prelude.{◌≡◌, All, List, [], length}
use Rattle.task_deck.specs.declared.ends.DoorPass.{DoorPass}
use Rattle.team_decks.proofs.dealing.empty_rows.Given as goal

abbrev pub invariant-loop-worker : goal.invariant-loop-worker
invariant-loop-worker l = record {
  many : length l.rows ≡ l._worker;
  empty : All (λ (row : List DoorPass). row ≡ []) l.rows;
}
