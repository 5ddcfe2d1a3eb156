use Rattle.std.proofs.Common.{ℕ, [], replicate, sym, ap, subst, ◌∙◌}
use Rattle.std.proofs.lemmas.Result.{IfOk-weaker}
use Rattle.replay_core.specs.inside.Tally.{AreTallies}
use Rattle.replay_core.proofs.TallyLaws.{AreTallies-first}
use Rattle.replay_core.proofs.running.first_tallies.Goals as goal

pub returns : goal.returns
returns c =
    let parts = c.args.plant.now in
    IfOk-weaker c.vec.result _ _
    (λ tallies made. subst (AreTallies parts [])
    (sym (made (λ y same. same) ∙ ap (λ (n : ℕ). replicate n (record { charges = 0; minutes = 0; charged = 0; last_end = 0 })) c.place_count.ensures.value))
    (AreTallies-first parts))
    c.vec.ensures.items_if_clones_equal
