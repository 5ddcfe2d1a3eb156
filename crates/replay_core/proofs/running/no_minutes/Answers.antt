use Rattle.std.proofs.Common.{ℕ, [], replicate, sym, ap, subst, ◌∙◌}
use Rattle.std.proofs.lemmas.Result.{IfOk-weaker}
use Rattle.replay_core.specs.inside.Latest.{AreLatest}
use Rattle.replay_core.proofs.TallyLaws.{AreLatest-first}
use Rattle.replay_core.proofs.running.no_minutes.Goals as goal

pub returns : goal.returns
returns c =
    let parts = c.args.plant.now in
    IfOk-weaker c.vec.result _ _
    (λ table made minute. subst (AreLatest minute parts []) (sym (made (λ y same. same) ∙ ap (λ (n : ℕ). replicate n 0) c.op_count.ensures.value))
    (AreLatest-first minute parts))
    c.vec.ensures.items_if_clones_equal
