use Rattle.std.proofs.Common.{◌≡◌, vec_len}
use Rattle.plan_search.proofs.search.steps_of.Given as goal

abbrev pub invariant-loop-run : goal.invariant-loop-run
invariant-loop-run l = vec_len l.steps ≡ l.run-index
