use Rattle.std.proofs.Common.{◌≡◌, ℕ, ◌*◌, ◌<◌, ◌≤◌, length, get_or, sum}
use Rattle.plant_model.specs.Parts.{crude_count_of, initial_of}
use Rattle.replay_core.proofs.state.first_amounts.Given as goal

abbrev pub invariant-loop-c : goal.invariant-loop-c
invariant-loop-c l = record {
  count : length l.amounts ≡ crude_count_of l.plant;
  done : (i : ℕ) → i < l.c → get_or l.amounts i 0 ≡ initial_of l.plant l.p i;
  total : sum l.amounts ≤ 10000000 * l.c;
}
