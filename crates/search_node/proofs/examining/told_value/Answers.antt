use Rattle.std.proofs.Common.{ℤ, ◌≤ℤ◌, FitsSigned, length, refl, sym, subst}
use Rattle.std.specs.Int.{w64}
use Rattle.search_node.specs.inside.Weighings.{setting_of}
use Rattle.search_node.specs.Values.{least_value}
use Rattle.search_node.proofs.ToldLaws.{not-low, read-cast, read-wide, told-fits}
use Rattle.search_node.proofs.examining.told_value.Goals as goal

fits : (c : goal.After-result-1) → FitsSigned w64 c.args.found.now.value
fits c =
    let w = c.args.weighing.now in
    told-fits w.plant.now w.bx.now c.args.found.now (c.value_laws.ensures.low (length w.bx.now)) c.slot_row_laws.ensures.plain c.requires.whole.box
    c.requires.candidate c.requires.plain c.requires.not_empty

pub overflow_cast-result : goal.overflow_cast-result
overflow_cast-result c = subst (FitsSigned w64) (sym (read-wide c.args.found.now.value (fits c))) (fits c)

pub returns : goal.returns
returns c =
    let w = c.args.weighing.now in
    let read = read-cast c.args.found.now.value (fits c) in
    let least = not-low (setting_of w) w.bx.now c.args.found.now (c.value_laws.ensures.low (length w.bx.now)) c.requires.whole.box refl c.requires.candidate
    c.requires.not_empty in
    record { value = read; least = subst (λ (value : ℤ). least_value ≤ℤ value) (sym read) least }
