use Rattle.std.proofs.Common.{◌≡◌, ◌++◌}
use Rattle.plant_maker.specs.Choices.{choices_of}
use Rattle.plant_maker.specs.Made.{transfer, entries, entries_of_each}
use Rattle.plant_maker.proofs.operations.push_all_transfers.Given as goal

abbrev pub invariant-loop-storage : goal.invariant-loop-storage
invariant-loop-storage l = l.list.items ≡ l.initial.list.items ++ entries_of_each (λ from. entries (transfer (choices_of l.picks) from) 2) l.storage
