use Rattle.crude_run.proofs.CheckLaws.{answer_yes}
use Rattle.crude_run.proofs.check.check_text.Goals as goal

pub returns-in-Yes : goal.returns-in-Yes
returns-in-Yes c =
    answer_yes c.args.plant.now c.args.bytes.now c.in-Yes.claim c.accepted.result
    (rw c.in-Yes.is at c.in_ok-claim.ensures.verdict) (rw c.in-Yes.is at c.in_ok-claim.ensures.claims) c.accepted.ensures
