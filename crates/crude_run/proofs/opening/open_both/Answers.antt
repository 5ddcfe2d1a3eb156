use Rattle.std.proofs.Common.{◌≡◌, Result, Ok, Err, rules}
use Rattle.crude_run.specs.declared.opening.Opened.{Opened}
use Rattle.crude_run.specs.declared.opening.Stop.{Stop}
use Rattle.crude_run.specs.Files.{files_between}
use Rattle.crude_run.proofs.OpeningLaws.{both_given, stopped_second}
use Rattle.crude_run.proofs.HiddenLaws.{ShowsFaults-on, ShowsFaults-stopped, ShowsFaults-both}
use Rattle.crude_run.proofs.opening.open_both.Goals as goal

pub returns-in_err-bytes-clause-stopped : goal.returns-in_err-bytes-clause-stopped
returns-in_err-bytes-clause-stopped g c =
    let same : c.from_residual-in_err-bytes.result ≡ Err c.in_err-bytes.field-0.0 = search rules in
    rw same
    (stopped_second g.H.Shelf.told g.H.Shelf.faults g.H.Shelf.longs c.args.shelf.now c.open_plant.new.shelf c.open_file.new.shelf
    c.in_ok-plant.ensures.later c.in_err-bytes.ensures.later c.args.plant.now _ c.in_ok-plant.ensures.plant c.args.second.now c.args.limit _
    c.in_err-bytes.ensures.stopped)

pub returns-in_err-bytes-clause-shown : goal.returns-in_err-bytes-clause-shown
returns-in_err-bytes-clause-shown g c =
    let same : c.from_residual-in_err-bytes.result ≡ Err c.in_err-bytes.field-0.0 = search rules in
    rw same
    (ShowsFaults-both g.H.Shelf.told g.H.Shelf.faults g.H.Shelf.longs c.args.shelf.now c.open_plant.new.shelf c.open_file.new.shelf
    c.in_ok-plant.plant (Err c.in_err-bytes.field-0.0) c.in_ok-plant.ensures.later c.in_ok-plant.ensures.shown
    (ShowsFaults-stopped (files_between g.H.Shelf.told g.H.Shelf.faults g.H.Shelf.longs c.open_plant.new.shelf c.open_file.new.shelf) c.in_err-bytes.field-0.0
    c.in_err-bytes.ensures.shown))

pub returns-clause-opened : goal.returns-clause-opened
returns-clause-opened g c =
    both_given g.H.Shelf.told g.H.Shelf.faults g.H.Shelf.longs c.args.shelf.now c.open_plant.new.shelf c.open_file.new.shelf
    c.in_ok-plant.ensures.later c.in_ok-bytes.ensures.later c.args.plant.now _ c.in_ok-plant.ensures.plant c.args.second.now c.args.limit
    c.in_ok-bytes.bytes.items c.in_ok-bytes.ensures.read

pub returns-clause-shown : goal.returns-clause-shown
returns-clause-shown g c =
    let made : Result Opened Stop = Ok (record { plant = c.in_ok-plant.plant; bytes = c.in_ok-bytes.bytes }) in
    ShowsFaults-both g.H.Shelf.told g.H.Shelf.faults g.H.Shelf.longs c.args.shelf.now c.open_plant.new.shelf c.open_file.new.shelf
    c.in_ok-plant.plant made c.in_ok-plant.ensures.later c.in_ok-plant.ensures.shown
    (ShowsFaults-on (files_between g.H.Shelf.told g.H.Shelf.faults g.H.Shelf.longs c.open_plant.new.shelf c.open_file.new.shelf) c.in_ok-bytes.bytes
    made c.in_ok-bytes.ensures.shown)
