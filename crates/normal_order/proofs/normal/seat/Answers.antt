use Rattle.std.proofs.Common.{◌∙◌, true, false, ap, arith}
use Rattle.std.proofs.lemmas.List.{take_all}
use Rattle.replay_core.specs.declared.timed.Timed.{Timed}
use Rattle.normal_order.specs.inside.Seats.{seat_of}
use Rattle.normal_order.proofs.SeatLaws.{seat_step, seat_within}
use Rattle.normal_order.proofs.normal.seat.Goals as goal
use Rattle.normal_order.proofs.normal.seat.Goals.{then-stands_behind, else-stands_behind}

pub loop-k-preserved : goal.loop-k-preserved
loop-k-preserved c =
    let d : Timed = record { op = 0; start = 0; end = 0; volume = 0 } in
    let step = seat_step c.args.plant.now c.args.op c.args.steps.now c.loop-k.k d c.loop-k.seat c.if-stands_behind.seat in
    elim c.if-stands_behind.branch [
      | then-stands_behind w ↦ step true c.loop-k-test.true c.loop-k.invariant w.if-stands_behind.ensures w.seat-is
      | else-stands_behind w ↦ step false c.loop-k-test.true c.loop-k.invariant w.if-stands_behind.ensures w.seat-is
    ]

pub returns-clause-within : goal.returns-clause-within
returns-clause-within c =
    let whole = c.loop-k.invariant ∙ ap (seat_of c.args.plant.now c.args.op) (take_all c.loop-k.k c.args.steps.now c.loop-k-test.false) in
    omega (arith, whole, seat_within c.args.plant.now c.args.op c.args.steps.now)
