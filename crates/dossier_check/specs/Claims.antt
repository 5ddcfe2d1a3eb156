-- What a dossier claims of its plant, and when that is so.
use Rattle.std.specs.Prelude.{ℕ, ℤ, List, Option, Some, None, option_map}
use Rattle.plant_model.specs.declared.parts.Parts.{Parts}
use Rattle.dossier_text.specs.declared.dossier.Dossier.{Dossier}
use Rattle.dossier_text.specs.declared.dossier.Word3.{Word3}
use Rattle.dossier_text.specs.declared.dossier.Word3.TheVariants.{Plan, Infeasible, Open3}
use Rattle.replay_core.specs.declared.timed.Timed.{Timed}
use Rattle.replay_core.specs.Claim.{IsPlanOf, IsBound, IsInfeasible}
use Rattle.dossier_check.specs.declared.verdict.Claim.{Claim}
use Rattle.plan_text.specs.Plans.{plan_of}
use Rattle.dossier_check.specs.Accepted.{IsAccepted}

-- what a dossier claims of the plans of at most its slots' number of operations: its answer, its plan with the margin,
-- and its bound
abbrev pub claim_of : Parts → Dossier → Claim
claim_of parts dossier = record {
  slots = dossier.slots;
  answer = dossier.answer;
  plan = option_map (plan_of parts) dossier.plan;
  margin = dossier.margin;
  bound = dossier.bound;
}

-- what an answer says, of the plans of at most n operations:
-- `plan`, that the plan is legal and earns the margin, and that no legal plan earns more than the bound;
-- `infeasible`, that there is no legal plan; `open`, that no legal plan earns more than the bound. Nothing else can be
-- said
abbrev pub IsSo : Parts → ℕ → Word3 → Option (List Timed) → Option ℤ → Option ℤ → Type 0
IsSo parts n Plan (Some plan) (Some margin) (Some bound) =
    IsPlanOf parts n margin plan × IsBound parts n bound
IsSo parts n Infeasible None None None = IsInfeasible parts n
IsSo parts n Open3 None None (Some bound) = IsBound parts n bound
IsSo parts n answer plan margin bound = ⊥

-- what is claimed is so
abbrev pub HasClaim : Parts → Claim → Type 0
HasClaim parts claim = IsSo parts claim.slots claim.answer claim.plan claim.margin claim.bound

-- whatever an accepted dossier claims is so
abbrev pub AcceptedClaimsAreTrue : Parts → Type 0
AcceptedClaimsAreTrue parts =
    (dossier : Dossier) → IsAccepted parts dossier → HasClaim parts (claim_of parts dossier)
