use Rattle.dossier_text.proofs.DossierLaws.{dossier-found, dossier-only}
use Rattle.dossier_text.proofs.reading.read_dossier.Goals as goal

pub returns-clause-found : goal.returns-clause-found
returns-clause-found c = dossier-found c.args.bytes.now c.dossier_at.result c.dossier_at.ensures

pub returns-clause-only : goal.returns-clause-only
returns-clause-only c = dossier-only c.args.bytes.now c.dossier_at.result c.dossier_at.ensures
