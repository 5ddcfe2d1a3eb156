use Rattle.dossier_check.proofs.ReasonLaws.{nothing_stands_against_accepted}
use Rattle.dossier_check.proofs.laws.reason_laws.Goals as goal

pub returns : goal.returns
returns c =
    nothing_stands_against_accepted c.args.plant.now c.split_laws.ensures.boxes c.tree_laws.ensures.within c.form_laws.ensures.boxes
