use Rattle.std.proofs.Common.{◌≡◌, ◌++◌}
use Rattle.plant_maker.specs.Choices.{choices_of}
use Rattle.plant_maker.specs.Made.{transfer, entries}
use Rattle.plant_maker.proofs.operations.push_transfers.Given as goal

abbrev pub invariant-loop-charging : goal.invariant-loop-charging
invariant-loop-charging l = l.list.items ≡ l.initial.list.items ++ entries (transfer (choices_of l.picks) l.storage) l.charging
