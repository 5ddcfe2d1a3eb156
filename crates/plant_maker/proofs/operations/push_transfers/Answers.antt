use Rattle.plant_maker.specs.Choices.{choices_of}
use Rattle.plant_maker.specs.Made.{transfer}
use Rattle.plant_maker.proofs.MadeLists.{entries_pushed}
use Rattle.plant_maker.proofs.operations.push_transfers.Goals as goal

pub loop-charging-preserved : goal.loop-charging-preserved
loop-charging-preserved c =
    entries_pushed _ _ _ (transfer (choices_of c.args.picks.now) c.args.storage) _ _ c.loop-charging.invariant
    c.in_ok-push.ensures.items c.in_ok-transfer.ensures
