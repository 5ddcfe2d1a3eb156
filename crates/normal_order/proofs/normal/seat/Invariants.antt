use Rattle.std.proofs.Common.{◌≡◌, take}
use Rattle.normal_order.specs.inside.Seats.{seat_of}
use Rattle.normal_order.proofs.normal.seat.Given as goal

abbrev pub invariant-loop-k : goal.invariant-loop-k
invariant-loop-k l = l.seat ≡ seat_of l.plant l.op (take l.k l.steps)
