use Rattle.std.proofs.Common.{◌≡◌, ◌++◌, length}
use Rattle.std.specs.Prelude.{Contains}
use Rattle.crossbeam_deque.specs.Handles.{worker_deque, worker_flavor, worker_view}
use Rattle.task_deck.specs.declared.ends.DoorPass.{DoorPass}
use Rattle.task_deck.specs.Decks.{IsPassOfDeck}
use Rattle.task_deck.specs.inside.Returns.{known_of}
use Rattle.task_deck.proofs.accounts.take_back_all.Given as goal

-- the deck is the same one; the passes that are not yet back are its own; and they and those that are back are all
abbrev pub invariant-loop-pass : goal.invariant-loop-pass
invariant-loop-pass l = record {
  deck : worker_deque l.deque ≡ worker_deque l.initial.deque;
  flavor : worker_flavor l.deque ≡ worker_flavor l.initial.deque;
  of : (pass : DoorPass) → Contains l.passes pass → IsPassOfDeck (worker_deque l.initial.deque) pass;
  view : worker_view l.deque ≡ record (worker_view l.initial.deque) { known = (worker_view l.deque).known };
  known : known_of l.passes ++ (worker_view l.deque).known ≡ known_of l.initial.passes;
}

abbrev pub decreases-loop-pass : goal.decreases-loop-pass
decreases-loop-pass l = length l.passes
