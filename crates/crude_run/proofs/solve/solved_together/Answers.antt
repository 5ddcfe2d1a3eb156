use Rattle.std.proofs.Common.{Ok}
use Rattle.crude_run.specs.Files.{files_between}
use Rattle.crude_run.specs.Solving.{Solves}
use Rattle.crude_run.proofs.OpeningLaws.{of_plant}
use Rattle.crude_run.proofs.HiddenLaws.{ShowsFaults-on}
use Rattle.crude_run.proofs.solve.solved_together.Goals as goal

pub returns-clause-due : goal.returns-clause-due
returns-clause-due g c =
    of_plant (files_between g.H.Shelf.told g.H.Shelf.faults g.H.Shelf.longs c.args.shelf.now c.open_plant.new.shelf) c.args.plant.now _
    (λ parts. Solves parts c.args.ask.slots c.args.ask.nodes c.args.ask.workers) c.in_ok-answer.answer c.in_ok-plant.ensures.plant c.in_ok-answer.ensures

pub returns-clause-shown : goal.returns-clause-shown
returns-clause-shown g c =
    ShowsFaults-on (files_between g.H.Shelf.told g.H.Shelf.faults g.H.Shelf.longs c.args.shelf.now c.open_plant.new.shelf) c.in_ok-plant.plant
    (Ok c.in_ok-answer.answer) c.in_ok-plant.ensures.shown
