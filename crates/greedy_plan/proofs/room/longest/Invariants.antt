use Rattle.std.proofs.Common.{ℕ, ◌+◌, ◌<◌, ◌≤◌}
use Rattle.greedy_plan.specs.inside.Longest.{Fits}
use Rattle.greedy_plan.proofs.room.longest.Given as goal

abbrev pub invariant-loop-back : goal.invariant-loop-back
invariant-loop-back l = (minutes : ℕ) → minutes ≤ l.limit → l.limit < minutes + l.back → Fits l.rate minutes → ⊥
