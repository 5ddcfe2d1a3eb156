use Rattle.crude_run.specs.Files.{files_between}
use Rattle.crude_run.proofs.OpeningLaws.{stopped_text}
use Rattle.crude_run.proofs.HiddenLaws.{ShowsFaults-on}
use Rattle.crude_run.proofs.opening.open_plant.Goals as goal

pub returns-clause-stopped : goal.returns-clause-stopped
returns-clause-stopped g c =
    stopped_text (files_between g.H.Shelf.told g.H.Shelf.faults g.H.Shelf.longs c.args.shelf.now c.open_file.new.shelf) c.args.name.now c.in_ok-text.text.items
    c.plant_of_text.result c.in_ok-text.ensures.read (rw c.deref.ensures.value at c.plant_of_text.ensures.stopped)

pub returns-clause-shown : goal.returns-clause-shown
returns-clause-shown g c =
    ShowsFaults-on (files_between g.H.Shelf.told g.H.Shelf.faults g.H.Shelf.longs c.args.shelf.now c.open_file.new.shelf) c.in_ok-text.text
    c.plant_of_text.result c.in_ok-text.ensures.shown
