use Rattle.plant_maker.specs.Choices.{choices_of}
use Rattle.plant_maker.specs.Made.{charge}
use Rattle.plant_maker.proofs.MadeLists.{entries_pushed}
use Rattle.plant_maker.proofs.operations.push_charges.Goals as goal

pub loop-tank-preserved : goal.loop-tank-preserved
loop-tank-preserved c =
    entries_pushed _ _ _ (charge (choices_of c.args.picks.now)) _ _ c.loop-tank.invariant
    c.in_ok-push.ensures.items c.in_ok-charge.ensures
