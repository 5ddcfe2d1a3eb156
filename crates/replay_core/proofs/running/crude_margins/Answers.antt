use Rattle.std.proofs.Common.{◌≤◌, ◌<◌, ◌∷◌, [], ◌++◌, ℤ, List, pos, get_or, length, sym, ap, ◌∙◌, w64, rules, arith}
use Rattle.std.proofs.lemmas.List.{take_all, take_more}
use Rattle.std.proofs.lemmas.Int.{to_z-of_z}
use mir.Val.{SFits}
use Rattle.plant_model.specs.Parts.{margin_of as crude_margin_of}
use Rattle.replay_core.specs.Margin.{crude_margins_of}
use Rattle.replay_core.proofs.MarginLaws.{length-crude_margins_of}
use Rattle.replay_core.proofs.running.crude_margins.Goals as goal

pub loop-c-preserved : goal.loop-c-preserved
unfolding crude_margins_of crude_margin_of
loop-c-preserved c =
    let parts = c.args.plant.now in
    let i = c.loop-c.c in
    let count = length-crude_margins_of parts in
    let within : i < length (crude_margins_of parts) = omega arith in
    let fits : SFits w64 c.margin.result = search rules in
    let pushed = c.in_ok-push.ensures.items in
    let item = to_z-of_z w64 c.margin.result fits ∙ c.margin.ensures.value in
    pushed
    ∙ ap (λ (z : ℤ). c.loop-c.margins.items ++ z ∷ []) item
    ∙ ap (λ (zs : List ℤ). zs ++ get_or (crude_margins_of parts) i (pos 0) ∷ []) c.loop-c.invariant
    ∙ sym (take_more (crude_margins_of parts) i (pos 0) within)

pub returns : goal.returns
returns c =
    let plant = c.args.plant.now in
    let count = length-crude_margins_of plant in
    let whole : length (crude_margins_of plant) ≤ c.loop-c.c = omega arith in
    c.loop-c.invariant ∙ take_all c.loop-c.c (crude_margins_of plant) whole
