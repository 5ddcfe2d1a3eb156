use Rattle.blend_cuts.specs.Proposals.{AreProposed}
use Rattle.blend_cuts.proofs.find.offer_set.Given as goal

abbrev pub invariant-loop-k : goal.invariant-loop-k
invariant-loop-k l = AreProposed l.plant l.room l.cuts
