-- The answer to a verdict.
use Rattle.std.proofs.Common.{◌≡◌, ℕ, List, Result, Ok, Err, inl}
use Rattle.std.specs.Prelude.{IfOk}
use Rattle.std.specs.declared.alloc.AllocError.{AllocError}
use Rattle.plant_model.specs.declared.parts.Parts.{Parts}
use Rattle.dossier_check.specs.declared.verdict.Claim.{Claim}
use Rattle.dossier_check.specs.Claims.{HasClaim}
use Rattle.dossier_check.specs.Verdicts.{IsAcceptedText}
use Rattle.crude_run.specs.declared.answer.Answer.{Answer}
use Rattle.crude_run.specs.Texts.{accepted}
use Rattle.crude_run.specs.Checking.{Checks}

-- to a yes
pub answer_yes : (parts : Parts) (text : List ℕ) (claim : Claim) (made : Result Answer AllocError) → IsAcceptedText parts text claim → HasClaim parts claim
    → IfOk made (λ answer. answer ≡ accepted claim.answer claim.margin claim.bound) → IfOk made (Checks parts text)
answer_yes parts text claim (Ok answer) given holds told = inl (record { claim = claim; given = given; holds = holds; says = told })
answer_yes parts text claim (Err refused) given holds told = tt
