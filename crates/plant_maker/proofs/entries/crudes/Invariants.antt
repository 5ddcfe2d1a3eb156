use Rattle.std.proofs.Common.{◌≡◌}
use Rattle.plant_maker.specs.Choices.{choices_of}
use Rattle.plant_maker.specs.Made.{made_crude, entries}
use Rattle.plant_maker.proofs.entries.crudes.Given as goal

abbrev pub invariant-loop-number : goal.invariant-loop-number
invariant-loop-number l = l.list.items ≡ entries (made_crude (choices_of l.picks)) l.number
