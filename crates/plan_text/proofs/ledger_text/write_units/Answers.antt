use Rattle.std.proofs.Common.{◌≡◌, ◌+◌, [], ◌++◌, drop, refl, sym, ap, ◌∙◌, arith}
use Rattle.std.proofs.lemmas.List.{append-nil, drop_all}
use Rattle.item_lists.specs.Faults.{each_from}
use Rattle.line_text.specs.Words.{text_of}
use Rattle.plant_model.specs.Parts.{places_of, place_of}
use Rattle.plant_model.proofs.PlaceLists.{length-places_of}
use Rattle.plan_text.specs.Ledger.{lines_at, unit_lines}
use Rattle.plan_text.proofs.LedgerLaws.{each_place-at, more_written}
use Rattle.plan_text.proofs.ledger_text.write_units.Goals as goal

pub loop-p-init : goal.loop-p-init
unfolding unit_lines
loop-p-init c = refl

pub loop-p-preserved : goal.loop-p-preserved
loop-p-preserved c =
    let parts = c.args.plant.now in
    let each = lines_at parts c.args.replay.now.steps in
    let p = c.loop-p.p in
    more_written c.loop-p.out.items c.write_if_unit.new.out.items _ (each p (place_of parts p)) (each_from each (p + 1) (drop (p + 1) (places_of parts)))
    (each_from each p (drop p (places_of parts))) c.in_ok-write_if_unit.ensures (each_place-at each parts p (omega arith)) c.loop-p.invariant

pub returns : goal.returns
returns c =
    let parts = c.args.plant.now in
    let each = lines_at parts c.args.replay.now.steps in
    let count = length-places_of parts in
    let none : drop c.loop-p.p (places_of parts) ≡ [] = drop_all c.loop-p.p (places_of parts) (omega arith) in
    sym (append-nil c.loop-p.out.items) ∙ ap (λ rest. c.loop-p.out.items ++ text_of (each_from each c.loop-p.p rest)) (sym none) ∙ c.loop-p.invariant
