use Rattle.std.proofs.Common.{◌≡◌, ◌++◌}
use Rattle.plant_maker.specs.Choices.{choices_of}
use Rattle.plant_maker.specs.Made.{charge, entries}
use Rattle.plant_maker.proofs.operations.push_charges.Given as goal

abbrev pub invariant-loop-tank : goal.invariant-loop-tank
invariant-loop-tank l = l.list.items ≡ l.initial.list.items ++ entries (charge (choices_of l.picks)) l.tank
