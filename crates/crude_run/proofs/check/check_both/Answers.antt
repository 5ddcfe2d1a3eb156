use Rattle.std.proofs.Common.{◌≡◌, Ok, Err, rules}
use Rattle.crude_run.specs.Numbers.{dossier_limit}
use Rattle.crude_run.specs.Files.{files_between}
use Rattle.crude_run.specs.Checking.{Checks}
use Rattle.crude_run.proofs.OpeningLaws.{of_both, stopped_both}
use Rattle.crude_run.proofs.HiddenLaws.{ShowsFaults-on}
use Rattle.crude_run.proofs.check.check_both.Goals as goal

pub returns-in_err-opened-clause-due : goal.returns-in_err-opened-clause-due
returns-in_err-opened-clause-due g c =
    let same : c.from_residual.result ≡ Err c.in_err-opened.field-0.0 = search rules in
    rw same
    (stopped_both (files_between g.H.Shelf.told g.H.Shelf.faults g.H.Shelf.longs c.args.shelf.now c.open_both.new.shelf) c.args.plant.now c.args.dossier.now
    dossier_limit Checks c.in_err-opened.field-0.0 c.in_err-opened.ensures.stopped)

pub returns-clause-due : goal.returns-clause-due
returns-clause-due g c =
    of_both (files_between g.H.Shelf.told g.H.Shelf.faults g.H.Shelf.longs c.args.shelf.now c.open_both.new.shelf) c.args.plant.now c.args.dossier.now
    dossier_limit c.in_ok-opened.opened.plant c.in_ok-opened.opened.bytes.items Checks c.in_ok-answer.answer c.in_ok-opened.ensures.opened
    (rw c.deref.ensures.value at c.in_ok-answer.ensures)

pub returns-clause-shown : goal.returns-clause-shown
returns-clause-shown g c =
    ShowsFaults-on (files_between g.H.Shelf.told g.H.Shelf.faults g.H.Shelf.longs c.args.shelf.now c.open_both.new.shelf) c.in_ok-opened.opened
    (Ok c.in_ok-answer.answer) c.in_ok-opened.ensures.shown
