use Rattle.crude_run.specs.Files.{files_between}
use Rattle.crude_run.specs.Replaying.{Shows}
use Rattle.crude_run.proofs.OpeningLaws.{of_plant}
use Rattle.crude_run.proofs.show.show_plant.Goals as goal

pub returns-clause-due : goal.returns-clause-due
returns-clause-due g c =
    of_plant (files_between g.H.Shelf.told g.H.Shelf.faults g.H.Shelf.longs c.args.shelf.now c.open_plant.new.shelf) c.args.plant.now _ Shows
    c.in_ok-answer.answer c.in_ok-plant.ensures.plant c.in_ok-answer.ensures
