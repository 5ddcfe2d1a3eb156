use Rattle.std.proofs.Common.{◌≡◌, ◌*◌, ◌≤◌, take, sum}
use Rattle.limits.specs.declared.TheConstants.{MOST_VOLUME}
use Rattle.plant_model.specs.Parts.{initial_amounts_of}
use Rattle.tank_rows.proofs.families.total.Given as goal

abbrev pub invariant-loop-c : goal.invariant-loop-c
invariant-loop-c l = record {
  value : l.total ≡ sum (take l.c (initial_amounts_of l.plant l.p));
  most : l.total ≤ l.c * MOST_VOLUME;
}
