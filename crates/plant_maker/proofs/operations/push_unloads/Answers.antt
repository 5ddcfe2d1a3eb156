use Rattle.plant_maker.specs.Choices.{choices_of}
use Rattle.plant_maker.specs.Made.{unload}
use Rattle.plant_maker.proofs.MadeLists.{entries_pushed}
use Rattle.plant_maker.proofs.operations.push_unloads.Goals as goal

pub loop-tank-preserved : goal.loop-tank-preserved
loop-tank-preserved c =
    entries_pushed _ _ _ (unload (choices_of c.args.picks.now) c.args.vessel) _ _ c.loop-tank.invariant
    c.in_ok-push.ensures.items c.in_ok-unload.ensures
