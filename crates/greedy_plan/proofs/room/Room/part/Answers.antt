use Rattle.std.proofs.Common.{arith}
use Rattle.greedy_plan.proofs.RoomLaws.{some_minutes, Reaches, reaches, at_most_the_longest, part_is_greatest}
use Rattle.greedy_plan.proofs.room.Room.part.Goals as goal

pub returns-then-volume-self : goal.returns-then-volume-self
returns-then-volume-self c = λ volume minutes takes.
    let reach : Reaches c.quickest-below.result c.args.self.now.minutes c.min.result = reaches _ _ _ (omega arith) in
    let most = at_most_the_longest c.args.self.now c.quickest-below.result c.min.result c.in_ok-minutes.minutes
    c.requires.some c.quickest-below.ensures.enough c.requires.not_whole reach c.in_ok-minutes.ensures
    volume minutes takes in
    omega (arith, most, takes.least)

pub returns : goal.returns
returns c =
    let reach : Reaches c.quickest-below.result c.args.self.now.minutes c.min.result = reaches _ _ _ (omega arith) in
    part_is_greatest c.args.self.now c.quickest-below.result c.min.result c.in_ok-minutes.minutes
    c.volume_in-volume.result c.quickest.result c.requires.room c.requires.some c.quickest-below.ensures.enough
    c.quickest-below.ensures.least c.requires.not_whole reach
    (let some = some_minutes c.args.self.now.rate.1 c.args.self.now.most c.quickest-below.result (omega arith)
    c.quickest-below.ensures.enough in omega arith)
    (omega arith) c.in_ok-minutes.ensures
    c.volume_in-volume.ensures c.if-volume-self.false c.quickest.ensures.enough c.quickest.ensures.least
