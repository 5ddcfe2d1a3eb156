use Rattle.std.proofs.Common.{◌≤◌, length, ◌∙◌, arith}
use Rattle.std.proofs.lemmas.List.{take_all}
use Rattle.replay_core.specs.State.{initial_state}
use Rattle.replay_core.proofs.StateLaws.{length-initial_state}
use Rattle.replay_core.proofs.state.first_state.Goals as goal

pub returns : goal.returns
returns c =
    let plant = c.args.plant.now in
    let count = length-initial_state plant in
    let whole : length (initial_state plant) ≤ c.loop-p.p = omega arith in
    c.loop-p.invariant ∙ take_all c.loop-p.p (initial_state plant) whole
