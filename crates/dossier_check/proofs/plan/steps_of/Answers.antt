use Rattle.dossier_check.proofs.PlanLaws.{steps_more}
use Rattle.std.proofs.Common.{arith, ap, ◌∙◌, ◌≡◌, ◌++◌, ◌∷◌, [], rules}
use Rattle.plan_text.specs.Plans.{timed_of}
use Rattle.dossier_check.proofs.plan.steps_of.Goals as goal

pub loop-line-preserved : goal.loop-line-preserved
loop-line-preserved c =
    let pushed : c.push.new.self ≡ c.loop-line.steps ++ timed_of c.args.plant.now c.line-item.result ∷ [] = search rules in
    pushed ∙ ap (λ steps. steps ++ timed_of c.args.plant.now c.line-item.result ∷ []) c.loop-line.invariant
    ∙ steps_more c.args.plant.now c.args.lines.now c.loop-line.line-index c.line-item.result (omega arith) c.line-item.is
