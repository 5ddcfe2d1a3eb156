use Rattle.std.proofs.Common.{◌≡◌, ◌++◌}
use Rattle.plant_maker.specs.Choices.{choices_of}
use Rattle.plant_maker.specs.Made.{unload, entries}
use Rattle.plant_maker.proofs.operations.push_unloads.Given as goal

abbrev pub invariant-loop-tank : goal.invariant-loop-tank
invariant-loop-tank l = l.list.items ≡ l.initial.list.items ++ entries (unload (choices_of l.picks) l.vessel) l.tank
