-- What a replay keeps of the operations that have run, so that the next one is tested at once.
use Rattle.std.specs.Prelude.{◌≡◌, ◌≤◌, length}
use Rattle.std.specs.Vec.{vec_capacity}
use Rattle.limits.specs.declared.TheConstants.{MOST_STEPS}
use Rattle.replay_core.specs.declared.running.Replay.TheInside.{Inside}
use Rattle.replay_core.specs.State.{state_after}
use Rattle.replay_core.specs.Legal.{CanRun}
use Rattle.replay_core.specs.Margin.{crude_margins_of, earned_of}
use Rattle.replay_core.specs.inside.Tally.{AreTallies}
use Rattle.replay_core.specs.inside.Latest.{start_of, end_of, AreLatest}

-- the operations broke no rule, there is room for as many as a plan may have, and each table is what it is of those
-- that have run
pub record IsReplay (inside : Inside) : Type 0 where
  pub can_run : CanRun inside.plant.now inside.order inside.steps.items
  pub few : length inside.steps.items ≤ MOST_STEPS
  pub room : MOST_STEPS ≤ vec_capacity inside.steps
  pub held : inside.held.items ≡ state_after inside.plant.now inside.steps.items
  pub tallies : AreTallies inside.plant.now inside.steps.items inside.tallies.items
  pub starts : AreLatest start_of inside.plant.now inside.steps.items inside.starts.items
  pub ends : AreLatest end_of inside.plant.now inside.steps.items inside.ends.items
  pub margins : inside.margins.items ≡ crude_margins_of inside.plant.now
  pub earned : inside.earned ≡ earned_of inside.plant.now inside.steps.items
