use Rattle.std.proofs.Common.{rules, sym, ◌∙◌, SFits, w64}
use Rattle.std.proofs.lemmas.Int.{to_z-of_z}
use Rattle.plant_text.specs.Kinds.{whole_number}
use Rattle.plant_text.proofs.Lists.{after-start, each_in-more, each_in-none, each_in-done}
use Rattle.plant_text.proofs.kinds.whole_numbers_in.Goals as goal

pub loop-value-init : goal.loop-value-init
loop-value-init c = rw c.in_ok-numbers.ensures.items (after-start _)

pub returns-in_default : goal.returns-in_default
returns-in_default c =
    sym (each_in-none whole_number c.args.values.now c.loop-value.value-index c.value-item.result c.loop-value.numbers.items c.loop-value-test.true
    c.value-item.is (sym c.in_default.ensures)) ∙ c.loop-value.invariant

pub loop-value-preserved : goal.loop-value-preserved
loop-value-preserved c =
    let fits : SFits w64 c.in-Some.number = search rules in
    rw (c.in_ok-push.ensures.items, to_z-of_z w64 c.in-Some.number fits)
    (sym (each_in-more whole_number c.args.values.now c.loop-value.value-index c.value-item.result c.loop-value.numbers.items c.in-Some.number
    c.loop-value-test.true c.value-item.is (sym c.in-Some.ensures)) ∙ c.loop-value.invariant)

pub returns : goal.returns
returns c = sym (each_in-done whole_number c.args.values.now c.loop-value.value-index c.loop-value.numbers.items c.loop-value-test.false)
    ∙ c.loop-value.invariant
