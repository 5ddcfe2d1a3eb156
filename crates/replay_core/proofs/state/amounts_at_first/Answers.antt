use Rattle.std.proofs.Common.{◌≡◌, true, replicate, sym, ap, ◌∙◌}
use Rattle.plant_model.specs.Parts.{place_of}
use Rattle.replay_core.specs.Rules.{is_unit}
use Rattle.replay_core.proofs.StateLaws.{held-first_unit}
use Rattle.replay_core.proofs.state.amounts_at_first.Goals as goal

pub returns-then-is_unit : goal.returns-then-is_unit
returns-then-is_unit c =
    let plant = c.args.plant.now in
    let unit : is_unit (place_of plant c.args.p).kind ≡ true = ap (λ place. is_unit place.kind) (sym c.place.ensures.value) ∙ sym c.is_unit.ensures
    ∙ c.if-is_unit.true in
    c.zero.ensures ∙ ap (λ n. replicate n 0) c.crude_count.ensures.value ∙ sym (held-first_unit plant c.args.p c.requires unit)
