use Rattle.std.proofs.Common.{refl}
use Rattle.std.proofs.lemmas.List.{length-replicate}
use Rattle.slot_forms.specs.Cases.{plain}
use Rattle.dossier_check.proofs.ClaimLaws.{accepted_claims_are_true}
use Rattle.dossier_check.proofs.laws.accepted_claim_laws.Goals as goal

pub returns : goal.returns
returns c =
    let parts = c.args.plant.now in
    accepted_claims_are_true parts c.form_laws.ensures.same
    (λ n cuts some most.
    c.leaf_laws.ensures.bounds (record { case = plain parts n; cuts = cuts }) refl (c.form_laws.ensures.boxes n some most) (length-replicate n _))
