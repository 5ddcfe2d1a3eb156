-- What `make` answers to a number.
use Rattle.std.specs.Prelude.{◌≡◌, ℕ, Bool, true, false}
use Rattle.plant_model.specs.declared.parts.Parts.{Parts}
use Rattle.plant_maker.specs.Made.{made_parts}
use Rattle.dossier_text.specs.declared.dossier.Dossier.{Dossier}
use Rattle.dossier_text.specs.Text.{dossier_bytes}
use Rattle.dossier_check.specs.declared.verdict.Claim.{Claim}
use Rattle.dossier_check.specs.Claims.{claim_of}
use Rattle.dossier_check.specs.Verdicts.{IsAcceptedText}
use Rattle.crude_run.specs.declared.answer.Answer.{Answer}
use Rattle.crude_run.specs.Numbers.{trial_slots, trial_budget}
use Rattle.crude_run.specs.Texts.{shown, tried}
use Rattle.crude_run.specs.Solving.{IsSolution}

-- the one text of the plant of the number
abbrev pub MakesPlant : ℕ → Answer → Type 0
MakesPlant number answer = answer ≡ shown (made_parts number)

-- the dossier of a small search for the plant, by one worker
pub record IsTrial (parts : Parts) (dossier : Dossier) : Type 0 where
  -- it answers what was asked
  pub solution : IsSolution parts trial_slots trial_budget 1 dossier
  -- its text is accepted, with what it claims
  pub accepted : IsAcceptedText parts (dossier_bytes dossier) (claim_of parts dossier)

-- what such a dossier claims of the plant
abbrev pub IsTrialClaim : Parts → Claim → Type 0
IsTrialClaim parts claim = (dossier : Dossier) × IsTrial parts dossier × (claim ≡ claim_of parts dossier)

-- the plant of the number is tried by such a search: the answer tells how large plant and search are, that the verdict
-- is yes, and what the dossier claims
pub record TriesPlant (number : ℕ) (answer : Answer) : Type 0 where
  pub dossier : Dossier
  pub trial : IsTrial (made_parts number) dossier
  pub says : answer ≡ tried number (made_parts number) dossier.answer dossier.margin dossier.bound

-- what `make` answers to a number, with `--solve` or without
abbrev pub Makes : ℕ → Bool → Answer → Type 0
Makes number false answer = MakesPlant number answer
Makes number true answer = TriesPlant number answer
