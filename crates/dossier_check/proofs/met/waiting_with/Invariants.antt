use Rattle.std.proofs.Common.{◌≡◌, ◌∷◌, Some, None, replicate}
use Rattle.dossier_check.proofs.met.waiting_with.Given as goal

abbrev pub invariant-loop-node : goal.invariant-loop-node
invariant-loop-node l = l.waiting.items ≡ Some l.fn.root ∷ replicate l._node None
