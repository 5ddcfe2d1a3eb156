use Rattle.std.proofs.Common.{◌≡◌, ◌∙◌, ℕ, ap, length, List, subst, arith}
use Rattle.task_deck.specs.declared.ends.DoorPass.{DoorPass}
use Rattle.team_decks.specs.inside.Dealt.{IsDealing}
use Rattle.team_decks.proofs.dealing.deal.Goals as goal

pub loop-worker-preserved : goal.loop-worker-preserved
loop-worker-preserved c = record {
  dealing = λ doors first. c.in_ok-deal_to.ensures.dealing doors (c.loop-worker.invariant.dealing doors first);
  workers = c.in_ok-deal_to.ensures.workers ∙ c.loop-worker.invariant.workers;
}

pub returns-clause-dealing : goal.returns-clause-dealing
returns-clause-dealing c doors first =
    let least = c.loop-worker-test.false in
    let most = c.loop-worker.auto.worker-end in
    let same = ap (λ (rows : List (List DoorPass)). length rows) c.as_slice-worker-end.ensures in
    let all : c.loop-worker.worker ≡ length c.args.rows.now = omega (arith, least, most, same) in
    subst (λ (n : ℕ). IsDealing doors c.args.number n c.loop-worker.owner c.loop-worker.rows) all (c.loop-worker.invariant.dealing doors first)
