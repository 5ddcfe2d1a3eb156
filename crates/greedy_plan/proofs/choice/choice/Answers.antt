use Rattle.std.proofs.Common.{◌≡◌, arith, ap}
use Rattle.replay_core.specs.Replayed.{Replayed}
use Rattle.greedy_plan.proofs.ChoiceLaws.{IsRoomOf, choice_is_none, choice_is_some}
use Rattle.greedy_plan.proofs.choice.choice.Goals as goal

pub returns-in_err-run-clause-value : goal.returns-in_err-run-clause-value
returns-in_err-run-clause-value c =
    let steps : c.args.replay.now.steps ≡ c.args.before.now = ap (λ (r : Replayed). r.steps) c.requires.same in
    let takes : IsRoomOf c.args.plant.now c.args.before.now c.args.v c.room.result =
    rw (steps, c.earliest_start-start.ensures.value) at c.room.ensures.takes in
    rw (c.from_residual.ensures, choice_is_none c.args.plant.now c.args.before.now c.args.v c.room.result takes c.in_err-run.ensures)

pub overflow_add-result : goal.overflow_add-result
overflow_add-result c =
    let in_time = c.in_ok-run.ensures.taken.in_time in
    let sound = c.sound.ensures.plant.each_op c.args.v c.requires.known in
    omega (arith, in_time, c.room.ensures.in_window, sound.within_horizon, c.sound.ensures.plant.horizon.1)

pub returns-clause-value : goal.returns-clause-value
returns-clause-value c =
    let steps : c.args.replay.now.steps ≡ c.args.before.now = ap (λ (r : Replayed). r.steps) c.requires.same in
    let takes : IsRoomOf c.args.plant.now c.args.before.now c.args.v c.room.result =
    rw (steps, c.earliest_start-start.ensures.value) at c.room.ensures.takes in
    rw (
      choice_is_some c.args.plant.now c.args.before.now c.args.v c.room.result c.in_ok-run.run'
          (c.sound.ensures.plant.each_op c.args.v c.requires.known) takes c.in_ok-run.ensures,
      c.earliest_start-start.ensures.value,
    )
