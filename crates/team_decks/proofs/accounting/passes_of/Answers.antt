use Rattle.std.proofs.Common.{◌≡◌, ◌∙◌, List, ℕ, ap, length, refl, arith, subst}
use Rattle.task_deck.specs.declared.ends.DoorPass.{DoorPass}
use Rattle.team_decks.specs.inside.Dealt.{IsReturning}
use Rattle.team_decks.proofs.AccountLaws.{returning-none}
use Rattle.team_decks.proofs.accounting.passes_of.Goals as goal

pub loop-worker-init : goal.loop-worker-init
loop-worker-init c = record {
  workers = refl;
  returning = λ doors dealt. rw c.new-passes.ensures (returning-none doors c.args.number c.args.rows.now dealt);
}

pub loop-worker-preserved : goal.loop-worker-preserved
loop-worker-preserved c = record {
  workers = c.in_ok-take_from.ensures.workers ∙ c.loop-worker.invariant.workers;
  returning = λ doors dealt. c.in_ok-take_from.ensures.returning doors c.args.rows.now (c.loop-worker.invariant.returning doors dealt);
}

pub returns : goal.returns
returns c doors dealt =
    let least = c.loop-worker-test.false in
    let most = c.loop-worker.auto.worker-end in
    let same = ap (λ (rows : List (List DoorPass)). length rows) c.as_slice-worker-end.ensures in
    let all : c.loop-worker.worker ≡ length c.args.rows.now = omega (arith, least, most, same) in
    subst (λ (n : ℕ). IsReturning doors c.args.number n c.args.rows.now c.loop-worker.rows c.loop-worker.passes) all
    (c.loop-worker.invariant.returning doors dealt)

pub take_from-requires : goal.take_from-requires
take_from-requires c =
    let less = c.loop-worker-test.true in
    let same = ap (λ (rows : List (List DoorPass)). length rows) c.as_slice-worker-end.ensures in
    let many = c.loop-worker.invariant.workers in
    record {
      worker = omega (arith, less, same, many);
      dealt = (c.requires.dealt.0, (c.loop-worker.invariant.returning c.requires.dealt.0 c.requires.dealt.1).left);
    }
