-- What single tests of the checker answer.
use Rattle.std.specs.Prelude.{◌≡◌, List, [], Some, None, Result, Ok, Err, ⊤}
use Rattle.item_lists.specs.Faults.{first_of}
use Rattle.plant_model.specs.declared.parts.Parts.{Parts}
use Rattle.dossier_text.specs.declared.dossier.Dossier.{Dossier}
use Rattle.dossier_check.specs.declared.verdict.Reason.{Reason}
use Rattle.dossier_check.specs.declared.verdict.Refusal.{Refusal}
use Rattle.dossier_check.specs.declared.verdict.Refusal.TheVariants.{First, Memory}
use Rattle.dossier_check.specs.declared.verdict.Verdict.{Verdict}
use Rattle.dossier_check.specs.declared.verdict.Verdict.TheVariants.{Yes, No}
use Rattle.dossier_check.specs.Claims.{claim_of}
use Rattle.dossier_check.specs.NodeReasons.{reason}
use Rattle.dossier_check.specs.Reasons.{dossier_reasons}

-- what a test answers: all is well where none of the reasons stands, or the first that stands, or memory ran out
abbrev pub Tests : {X : Type 0} → List Reason → Result X Refusal → Type 0
Tests reasons (Ok x) = first_of reasons ≡ None
Tests reasons (Err (First found)) = first_of reasons ≡ Some found
Tests reasons (Err Memory) = ⊤

-- the verdict on a dossier that was read: yes where nothing stands against it, or else the first reason
abbrev pub IsVerdictOn : Parts → Dossier → Verdict → Type 0
IsVerdictOn parts dossier (Yes claim) = (dossier_reasons parts dossier ≡ []) × (claim ≡ claim_of parts dossier)
IsVerdictOn parts dossier (No number line) = first_of (dossier_reasons parts dossier) ≡ Some (reason number line)
