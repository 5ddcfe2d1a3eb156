use Rattle.std.proofs.Common.{◌≡◌, ◌-◌, length}
use Rattle.crossbeam_deque.specs.Handles.{worker_flavor, worker_view}
use Rattle.task_deck.specs.inside.Hands.{with_taken}
use Rattle.task_deck.proofs.accounts.drain.Given as goal

abbrev pub invariant-loop-task : goal.invariant-loop-task
invariant-loop-task l = (worker_flavor l.deque ≡ 0) × (worker_view l.deque ≡ with_taken (worker_view l.initial.deque) l.left)

abbrev pub decreases-loop-task : goal.decreases-loop-task
decreases-loop-task l = length (worker_view l.deque).pushed - length (worker_view l.deque).taken
