use Rattle.std.proofs.Common.{◌≡◌}
use Rattle.plant_maker.specs.Choices.{choices_of}
use Rattle.plant_maker.specs.Made.{made_vessel, entries}
use Rattle.plant_maker.proofs.entries.vessels.Given as goal

abbrev pub invariant-loop-number : goal.invariant-loop-number
invariant-loop-number l = l.list.items ≡ entries (made_vessel (choices_of l.picks)) l.number
