use Rattle.plant_maker.specs.Choices.{choices_of}
use Rattle.plant_maker.specs.Made.{unload, entries}
use Rattle.plant_maker.proofs.MadeLists.{entries_of_each_pushed}
use Rattle.plant_maker.proofs.operations.push_all_unloads.Goals as goal

pub loop-vessel-preserved : goal.loop-vessel-preserved
loop-vessel-preserved c =
    let choices = choices_of c.args.picks.now in
    entries_of_each_pushed _ _ _ (λ vessel. entries (unload choices vessel) choices.storage) _ c.loop-vessel.invariant c.in_ok-push_unloads.ensures
