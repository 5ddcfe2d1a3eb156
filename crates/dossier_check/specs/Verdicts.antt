-- What is answered of bytes: yes with what the dossier claims, or the first reason for which it is not accepted.
use Rattle.std.specs.Prelude.{◌≡◌, ℕ, ◌↔◌, List, [], Some, ⊤}
use Rattle.item_lists.specs.Faults.{first_of}
use Rattle.plant_model.specs.declared.parts.Parts.{Parts}
use Rattle.dossier_text.specs.declared.dossier.Dossier.{Dossier}
use Rattle.dossier_text.specs.Ranges.{IsReadable}
use Rattle.dossier_text.specs.Text.{dossier_bytes}
use Rattle.dossier_check.specs.declared.verdict.Claim.{Claim}
use Rattle.dossier_check.specs.declared.verdict.Verdict.{Verdict}
use Rattle.dossier_check.specs.declared.verdict.Verdict.TheVariants.{Yes, No}
use Rattle.dossier_check.specs.Accepted.{IsAccepted}
use Rattle.dossier_check.specs.Claims.{claim_of, HasClaim}
use Rattle.dossier_check.specs.NodeReasons.{reason}
use Rattle.dossier_check.specs.Reasons.{dossier_reasons, reasons_of}

-- the bytes are the text of an accepted dossier and of no other, and it claims this
pub record IsAcceptedText (parts : Parts) (bytes : List ℕ) (claim : Claim) : Type 0 where
  pub dossier : Dossier
  pub readable : IsReadable dossier
  pub text : bytes ≡ dossier_bytes dossier
  pub only : (other : Dossier) → IsReadable other → bytes ≡ dossier_bytes other → other ≡ dossier
  pub accepted : IsAccepted parts dossier
  pub claimed : claim ≡ claim_of parts dossier

-- the verdict on the bytes: yes where they are an accepted dossier, or else the first of the reasons why they are none
abbrev pub IsVerdict : Parts → List ℕ → Verdict → Type 0
IsVerdict parts bytes (Yes claim) = IsAcceptedText parts bytes claim
IsVerdict parts bytes (No number line) = first_of (reasons_of parts bytes) ≡ Some (reason number line)

-- the text of an accepted dossier is given yes
abbrev pub IsYesOfAccepted : Parts → List ℕ → Verdict → Type 0
IsYesOfAccepted parts bytes verdict =
    (dossier : Dossier) → IsReadable dossier → bytes ≡ dossier_bytes dossier → IsAccepted parts dossier
    → verdict ≡ Yes (claim_of parts dossier)

-- a yes claims only what is true of the plant, in the words of legal plans and margins alone, whoever wrote the bytes
abbrev pub ClaimsTruth : Parts → Verdict → Type 0
ClaimsTruth parts (Yes claim) = HasClaim parts claim
ClaimsTruth parts (No number line) = ⊤

-- nothing stands against a dossier that can be read exactly where it is accepted
abbrev pub NothingStandsAgainstAccepted : Parts → Type 0
NothingStandsAgainstAccepted parts =
    (dossier : Dossier) → IsReadable dossier → (dossier_reasons parts dossier ≡ []) ↔ IsAccepted parts dossier
