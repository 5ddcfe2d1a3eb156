use Rattle.std.proofs.Common.{◌≡◌, ◌+◌, ◌∙◌, [], ◌∷◌, ◌++◌, List, ℕ, ap, length, sym, subst}
use Rattle.std.specs.Prelude.{slice_index_or}
use Rattle.std.proofs.lemmas.List.{length-set}
use Rattle.task_deck.specs.declared.ends.DoorPass.{DoorPass}
use Rattle.team_decks.specs.inside.Dealt.{IsDealing}
use Rattle.team_decks.proofs.DealLaws.{IsDealing-given, IsDealing-own}
use Rattle.team_decks.proofs.dealing.deal_to.Goals as goal

pub returns-then-worker-number-clause-dealing : goal.returns-then-worker-number-clause-dealing
returns-then-worker-number-clause-dealing c doors dealing =
    let same : c.args.worker ≡ c.args.number = c.if-worker-number.true in
    subst (λ (n : ℕ). IsDealing doors c.args.number (n + 1) c.args.owner.now c.args.rows.now) (sym same)
    (IsDealing-own doors c.args.number c.args.owner.now c.args.rows.now
    (subst (λ (n : ℕ). IsDealing doors c.args.number n c.args.owner.now c.args.rows.now) same dealing))

pub returns-clause-dealing : goal.returns-clause-dealing
returns-clause-dealing c doors dealing =
    let given = c.in_ok-give.ensures [] in
    subst (λ (rows : List (List DoorPass)). IsDealing doors c.args.number (c.args.worker + 1) c.pass.new.self rows) (sym given)
    (IsDealing-given doors c.args.number c.args.worker c.args.owner.now c.pass.new.self c.args.rows.now c.in_ok-pass.pass [] c.if-worker-number.false
    c.requires dealing c.pass.ensures.deck c.in_ok-pass.ensures.made c.in_ok-pass.ensures.pass c.in_ok-pass.ensures.of)

pub returns-clause-workers : goal.returns-clause-workers
returns-clause-workers c =
    ap (λ (rows : List (List DoorPass)). length rows) (c.in_ok-give.ensures [])
    ∙ length-set c.args.rows.now c.args.worker (slice_index_or c.args.rows.now c.args.worker [] ++ c.in_ok-pass.pass ∷ [])
