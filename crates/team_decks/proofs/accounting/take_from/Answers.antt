use Rattle.std.proofs.Common.{◌≡◌, ◌+◌, [], ◌∷◌, ◌++◌, List, ℕ, rules, subst, sym}
use Rattle.task_deck.specs.declared.ends.DoorPass.{DoorPass}
use Rattle.team_decks.specs.inside.Dealt.{IsReturning}
use Rattle.team_decks.proofs.AccountLaws.{returning-own, returning-taken, some-pass}
use Rattle.team_decks.proofs.accounting.take_from.Goals as goal

pub returns-clause-returning : goal.returns-clause-returning
returns-clause-returning c doors first returning =
    let left = c.take_back-pass.ensures.0 in
    let pushed : c.push.new.self ≡ c.args.passes.now ++ c.take_back-pass.result ∷ [] = search rules in
    rw pushed
    (subst (λ (rows : List (List DoorPass)). IsReturning doors c.args.number (c.args.worker + 1) first rows (c.args.passes.now ++ c.take_back-pass.result ∷ []))
    (sym c.take_back-pass.ensures.2)
    (returning-taken doors c.args.number c.args.worker first c.args.rows.now c.args.passes.now left c.take_back-pass.result returning c.if-worker-number.false
    c.requires.worker c.take_back-pass.ensures.1))

pub returns-then-worker-number-clause-returning : goal.returns-then-worker-number-clause-returning
returns-then-worker-number-clause-returning c doors first returning =
    let same = c.if-worker-number.true in
    subst (λ (n : ℕ). IsReturning doors c.args.number (n + 1) first c.args.rows.now c.args.passes.now) (sym same)
    (returning-own doors c.args.number first c.args.rows.now c.args.passes.now
    (subst (λ (n : ℕ). IsReturning doors c.args.number n first c.args.rows.now c.args.passes.now) same returning))

pub take_back-pass-requires-clause-some : goal.take_back-pass-requires-clause-some
take_back-pass-requires-clause-some c row =
    some-pass c.requires.dealt.0 c.args.number c.args.worker c.args.rows.now row c.requires.dealt.1 c.if-worker-number.false c.requires.worker
