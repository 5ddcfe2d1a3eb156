use Rattle.std.proofs.Common.{◌≡◌, ◌*◌, ◌≤◌, take, sum, slice_index}
use Rattle.number_laws.specs.Sums.{sum_below}
use Rattle.plant_model.specs.Parts.{property_of}
use Rattle.replay_core.proofs.state_rules.content.Given as goal

abbrev pub invariant-loop-c : goal.invariant-loop-c
invariant-loop-c l = record {
  done : l.content ≡ sum_below l.c (λ c. property_of l.plant c l.k * slice_index l.amounts c);
  most : l.content ≤ 1000000 * sum (take l.c l.amounts);
}
