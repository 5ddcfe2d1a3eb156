use Rattle.std.proofs.Common.{◌≡◌, ◌∷◌, [], ◌++◌, ◌<◌, ap, length, rules, arith}
use Rattle.std.proofs.lemmas.List.{length_push}
use Rattle.task_deck.specs.declared.ends.Owner.{Owner}
use Rattle.search_team.specs.inside.Benches.{bench_of}
use Rattle.search_team.proofs.SeatLaws.{IsSeating-more, seated-may}
use Rattle.search_team.proofs.benches.seat_all.Goals as goal

pub loop-owner-preserved : goal.loop-owner-preserved
loop-owner-preserved c =
    let owners : c.loop-owner.owners ≡ c.pop.new.self ++ c.in-Some.owner ∷ [] = search rules in
    let rows : c.loop-owner.rows ≡ c.pop-in-Some.new.self ++ c.unwrap-passes.result ∷ [] = search rules in
    let number : length c.as_slice.result.now ≡ length c.pop.new.self = search rules in
    let benches : c.push.new.self ≡ c.loop-owner.benches ++ bench_of c.in_ok-me.me ∷ [] = search rules in
    let may : 0 < c.loop-owner.seat.may = omega (arith, seated-may c.args.seat.now c.args.owners c.loop-owner.owners c.args.rows c.loop-owner.rows c.args.root c.loop-owner.root c.loop-owner.seat c.loop-owner.benches c.loop-owner.invariant, ap (length {A = Owner}) owners, length_push c.pop.new.self c.in-Some.owner, c.requires.may) in
    let me = rw number at c.in_ok-me.ensures.me in
    let root = rw number at c.in_ok-me.ensures.root in
    IsSeating-more c.args.seat.now c.args.owners c.loop-owner.owners c.pop.new.self c.args.rows c.loop-owner.rows c.pop-in-Some.new.self c.args.root
    c.loop-owner.root c.me_of.new.root c.loop-owner.seat c.me_of.new.seat c.loop-owner.benches c.push.new.self c.in-Some.owner c.unwrap-passes.result c.in_ok-me.me
    c.loop-owner.invariant owners rows me may c.in_ok-me.ensures.seat root benches
