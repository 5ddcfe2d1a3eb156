use Rattle.blend_cuts.specs.Proposals.{AreProposed}
use Rattle.blend_cuts.proofs.find.offer_singles.Given as goal

abbrev pub invariant-loop-p : goal.invariant-loop-p
invariant-loop-p l = AreProposed l.plant l.room l.cuts
