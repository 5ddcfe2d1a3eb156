use Rattle.std.proofs.Common.{◌≡◌, ◌++◌}
use Rattle.plant_maker.specs.Choices.{choices_of}
use Rattle.plant_maker.specs.Made.{unload, entries, entries_of_each}
use Rattle.plant_maker.proofs.operations.push_all_unloads.Given as goal

abbrev pub invariant-loop-vessel : goal.invariant-loop-vessel
invariant-loop-vessel l =
    let choices = choices_of l.picks in
    l.list.items ≡ l.initial.list.items ++ entries_of_each (λ vessel. entries (unload choices vessel) choices.storage) l.vessel
