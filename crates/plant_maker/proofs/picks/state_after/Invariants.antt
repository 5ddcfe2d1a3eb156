use Rattle.std.proofs.Common.{◌≡◌, ◌<◌, ◌^◌}
use Rattle.plant_maker.specs.Picks.{state_after}
use Rattle.plant_maker.proofs.picks.state_after.Given as goal

abbrev pub invariant-loop-done : goal.invariant-loop-done
invariant-loop-done l = (l.state ≡ state_after l.number l._done) × (l.state < 2 ^ 32)
