use Rattle.std.proofs.Common.{Ok, ap, sym, ◌∙◌}
use Rattle.std.proofs.lemmas.Result.{err_from_is_err_and}
use Rattle.plant_text.proofs.Loop.{goes_on, ends, is_done}
use Rattle.plant_text.proofs.entries.entries.Goals as goal

pub returns-in_err-part : goal.returns-in_err-part
returns-in_err-part g c =
    let p = err_from_is_err_and c.from_residual-in_err-part.result c.from_residual-in_err-part.ensures.1 in
    rw (p.1, p.2) (ends c.in_err-part.field-0.0
    (g.R.EntryReader.reading c.args.reader.now) c.loop-value.index c.args.values.now c.loop-value.value-index c.value-item.result
    c.loop-value.parts.items _ c.loop-value-test.true c.value-item.is c.in_err-part.ensures c.loop-value.invariant)

pub loop-value-preserved : goal.loop-value-preserved
loop-value-preserved g c =
    rw (c.in_ok-push.ensures.items, c.saturating_add-index.ensures)
    (sym (goes_on (g.R.EntryReader.reading c.args.reader.now) c.loop-value.index c.args.values.now c.loop-value.value-index c.value-item.result
    c.loop-value.parts.items c.in_ok-part.part c.loop-value-test.true c.value-item.is c.in_ok-part.ensures)
    ∙ c.loop-value.invariant)

pub returns : goal.returns
returns g c = is_done
    (g.R.EntryReader.reading c.args.reader.now) c.loop-value.index c.args.values.now c.loop-value.value-index c.loop-value.parts.items _
    c.loop-value-test.false c.loop-value.invariant ∙ ap Ok (sym c.from_vec.ensures)
