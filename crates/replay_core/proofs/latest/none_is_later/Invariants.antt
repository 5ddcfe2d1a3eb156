use Rattle.std.proofs.Common.{ℕ, ◌<◌, ◌≤◌, IsTrue, get_or}
use Rattle.replay_core.specs.inside.Latest.{relates}
use Rattle.replay_core.proofs.latest.none_is_later.Given as goal

abbrev pub invariant-loop-v : goal.invariant-loop-v
invariant-loop-v l = (v : ℕ) → v < l.v → IsTrue (relates l.plant l.relation v l.w) → get_or l.table v 0 ≤ l.limit
