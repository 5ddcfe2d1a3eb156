-- The head of the dossier of what a search has found. No promise of the program is made of these words.
use Rattle.std.specs.Prelude.{◌≡◌, ℤ, List, Option, Some, None}
use Rattle.plant_model.specs.declared.parts.Parts.{Parts}
use Rattle.plan_text.specs.declared.op_line.OpLine.{OpLine}
use Rattle.replay_core.specs.declared.planned.Planned.{Planned}
use Rattle.dossier_text.specs.declared.dossier.Word3.TheVariants.{Plan, Infeasible, Open3}
use Rattle.plan_text.specs.PlanText.{AreOpLines}
use Rattle.plan_text.specs.Plans.{plan_of}
use Rattle.crude_run.specs.declared.conclude.Head.{Head}

-- these are the lines of the plan
pub record IsLinesOf (parts : Parts) (planned : Planned) (lines : List OpLine) : Type 0 where
  pub steps : plan_of parts lines ≡ planned.plan
  pub numbered : AreOpLines 1 lines

-- the best plan with its margin; without one, that there is none where no leaf has a value, and else nothing
abbrev pub IsHeadOf : Parts → Option Planned → Option ℤ → Head → Type 0
IsHeadOf parts (Some planned) bound head =
    (head.answer ≡ Plan) × (head.margin ≡ Some planned.margin)
    × ((lines : List OpLine) × (head.plan ≡ Some lines) × IsLinesOf parts planned lines)
IsHeadOf parts None None head = (head.answer ≡ Infeasible) × (head.margin ≡ None) × (head.plan ≡ None)
IsHeadOf parts None (Some bound) head = (head.answer ≡ Open3) × (head.margin ≡ None) × (head.plan ≡ None)
