use Rattle.crude_run.proofs.MakingLaws.{trial_yes, trial_no}
use Rattle.crude_run.proofs.make.checked_claim.Goals as goal

pub returns : goal.returns
returns c =
    trial_yes c.args.plant.now c.args.found.now c.as_slice.result.now c.as_slice.ensures c.requires c.in-Yes.claim
    (rw c.in-Yes.is at c.in_ok-verdict.ensures.verdict) (rw c.in-Yes.is at c.in_ok-verdict.ensures.accepted)

pub unreachable-requires : goal.unreachable-requires
unreachable-requires c =
    trial_no c.args.plant.now c.args.found.now c.as_slice.result.now c.as_slice.ensures c.requires _ _
    (rw c.in-No.is at c.in_ok-verdict.ensures.accepted)
