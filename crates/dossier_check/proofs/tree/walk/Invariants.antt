use Rattle.dossier_check.specs.inside.Walks.{IsSized, pass_of}
use Rattle.dossier_check.proofs.WalkLaws.{IsWalked}
use Rattle.dossier_check.proofs.tree.walk.Given as goal

abbrev pub invariant-loop-id : goal.invariant-loop-id
invariant-loop-id l = record {
  walked : IsWalked (pass_of l.plant l.dossier l.first_line l.fn.root) l.dossier.tree l.id l.met l.best;
  sized : IsSized l.dossier.slots l.met;
}
