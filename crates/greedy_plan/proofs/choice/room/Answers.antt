use Rattle.greedy_plan.proofs.FitLaws.{room_takes}
use Rattle.greedy_plan.proofs.choice.room.Goals as goal

pub returns-clause-takes : goal.returns-clause-takes
returns-clause-takes c = rw c.op-op.ensures.value
    (room_takes c.args.plant.now c.args.replay.now.steps c.args.v c.args.start c.spare.result c.open_room.result
    c.min.result c.saturating_sub.result (c.sound.ensures.plant.each_op c.args.v c.requires.known) c.requires.opened
    (rw (← c.op-op.ensures.value) c.spare.ensures) (rw (← c.op-op.ensures.value) c.open_room.ensures)
    (rw (← c.op-op.ensures.value) (rw (c.min.ensures, c.min-most.ensures, c.into.ensures)))
    (rw (← c.op-op.ensures.value) c.saturating_sub.ensures))
