use Rattle.std.proofs.Common.{◌≡◌, ◌*◌, ◌≤◌}
use Rattle.number_laws.specs.Sums.{sum_below}
use Rattle.plant_model.specs.Parts.{place_of}
use Rattle.replay_core.specs.Margin.{wait_of}
use Rattle.replay_core.specs.inside.Earnings.{MOST_PAID}
use Rattle.replay_core.proofs.running.Replay.demurrage.Given as goal

abbrev pub invariant-loop-p : goal.invariant-loop-p
invariant-loop-p l = record {
  value : l.demurrage ≡ sum_below l.p (λ p. (place_of l.self.parts p).demurrage * wait_of l.self.parts l.self.steps p);
  most : l.demurrage ≤ l.p * MOST_PAID;
}
