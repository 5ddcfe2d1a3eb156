use Rattle.std.proofs.Common.{◌≡◌, ◌-◌, ◌∷◌, None, Some, replicate}
use Rattle.search_core.specs.Cores.{fresh_worker}
use Rattle.search_core.proofs.machine.fresh_workers.Given as goal

abbrev pub invariant-loop-made : goal.invariant-loop-made
invariant-loop-made l = l.workers.items ≡ fresh_worker (Some 0) ∷ replicate (l.made - 1) (fresh_worker None)
