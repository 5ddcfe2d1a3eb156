use Rattle.std.proofs.Common.{◌≡◌, ◌∷◌, [], ◌++◌, arith, rules}
use Rattle.team_decks.proofs.DealLaws.{dealt-all, dealt-more, dealt-none}
use Rattle.team_decks.proofs.dealing.deal_all.Goals as goal

pub loop-number-init : goal.loop-number-init
loop-number-init c =
    rw (c.new-doors.ensures, c.new-owners.ensures) (dealt-none c.args.workers c.in_ok-rows.rows c.in_ok-rows.ensures.workers c.in_ok-rows.ensures.empty)

pub loop-number-preserved : goal.loop-number-preserved
loop-number-preserved c =
    let doors : c.push.new.self ≡ c.loop-number.doors ++ c.in_ok-owner.door ∷ [] = search rules in
    let owners : c.push-in-loop-number.new.self ≡ c.loop-number.owners ++ c.deal.new.owner ∷ [] = search rules in
    rw (doors, owners)
    (dealt-more c.loop-number.number c.args.workers c.loop-number.doors c.loop-number.owners c.loop-number.rows c.deal.new.rows c.in_ok-owner.door
    c.in_ok-owner.owner c.deal.new.owner c.loop-number.invariant c.loop-number-test.true c.in_ok-owner.ensures.empty c.in_ok-owner.ensures.one
    c.in_ok-deal.ensures.dealing c.in_ok-deal.ensures.workers)

pub returns : goal.returns
returns c =
    let least = c.loop-number-test.false in
    let most = c.loop-number.auto.number-end in
    dealt-all c.loop-number.number c.args.workers c.loop-number.doors c.loop-number.owners c.loop-number.rows (omega (arith, least, most))
    c.loop-number.invariant
