use Rattle.plant_maker.specs.Choices.{choices_of}
use Rattle.plant_maker.specs.Made.{transfer, entries}
use Rattle.plant_maker.proofs.MadeLists.{entries_of_each_pushed}
use Rattle.plant_maker.proofs.operations.push_all_transfers.Goals as goal

pub loop-storage-preserved : goal.loop-storage-preserved
loop-storage-preserved c =
    entries_of_each_pushed _ _ _ (λ from. entries (transfer (choices_of c.args.picks.now) from) 2) _ c.loop-storage.invariant c.in_ok-push_transfers.ensures
