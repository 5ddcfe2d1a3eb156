-- What `check` answers to the bytes of a dossier.
use Rattle.std.specs.Prelude.{◌≡◌, ◌⊎◌, ℕ, List, Some}
use Rattle.item_lists.specs.Faults.{first_of}
use Rattle.plant_model.specs.declared.parts.Parts.{Parts}
use Rattle.dossier_check.specs.declared.verdict.Claim.{Claim}
use Rattle.dossier_check.specs.Claims.{HasClaim}
use Rattle.dossier_check.specs.NodeReasons.{reason}
use Rattle.dossier_check.specs.Reasons.{reasons_of}
use Rattle.dossier_check.specs.Verdicts.{IsAcceptedText}
use Rattle.crude_run.specs.declared.answer.Answer.{Answer}
use Rattle.crude_run.specs.Texts.{accepted, not_accepted}

-- a yes
pub record IsYes (parts : Parts) (bytes : List ℕ) (answer : Answer) : Type 0 where
  pub claim : Claim
  -- the bytes are the text of an accepted dossier, which claims this
  pub given : IsAcceptedText parts bytes claim
  -- and what it claims is so
  pub holds : HasClaim parts claim
  -- the answer is yes, with the claim in the dossier's own lines
  pub says : answer ≡ accepted claim.answer claim.margin claim.bound

-- a no
pub record IsNo (parts : Parts) (bytes : List ℕ) (answer : Answer) : Type 0 where
  -- the bytes are the text of no accepted dossier
  pub none : (claim : Claim) → IsAcceptedText parts bytes claim → ⊥
  -- this is the first reason, and its line
  pub number : ℕ
  pub line : ℕ
  pub first : first_of (reasons_of parts bytes) ≡ Some (reason number line)
  -- and the answer is no, with both
  pub says : answer ≡ not_accepted number line

-- what `check` answers: yes where the bytes are an accepted dossier, and else no
abbrev pub Checks : Parts → List ℕ → Answer → Type 0
Checks parts bytes answer = IsYes parts bytes answer ⊎ IsNo parts bytes answer
