use Rattle.std.proofs.Common.{ap, sym, ◌∙◌, Some}
use Rattle.plant_text.specs.Kinds.{pair}
use Rattle.plant_text.proofs.Lists.{after-start, each_in-more, each_in-none, each_in-done}
use Rattle.plant_text.proofs.kinds.pairs_in.Goals as goal

pub loop-value-init : goal.loop-value-init
loop-value-init c = rw c.in_ok-found.ensures.items (after-start _)

pub returns-in_default : goal.returns-in_default
returns-in_default c =
    sym (each_in-none pair c.args.values.now c.loop-value.value-index c.value-item.result c.loop-value.found.items c.loop-value-test.true
    c.value-item.is (sym c.in_default.ensures)) ∙ c.loop-value.invariant

pub loop-value-preserved : goal.loop-value-preserved
loop-value-preserved c =
    rw c.in_ok-push.ensures.items
    (sym (each_in-more pair c.args.values.now c.loop-value.value-index c.value-item.result c.loop-value.found.items c.in-Some.ends
    c.loop-value-test.true c.value-item.is (sym c.in-Some.ensures)) ∙ c.loop-value.invariant)

pub returns : goal.returns
returns c = ap Some c.from_vec.ensures
    ∙ sym (each_in-done pair c.args.values.now c.loop-value.value-index c.loop-value.found.items c.loop-value-test.false) ∙ c.loop-value.invariant
