-- When a run has done the work that its words ask for, and with which status it ends then.
use Rattle.std.specs.Prelude.{◌≡◌, ◌⊎◌, ℕ, ◌+◌, ◌≤◌, Bool, List, length, Some, Ok}
use Rattle.outer_edge.specs.Rose.{Rose}
use Rattle.plant_model.specs.declared.parts.Parts.{Parts}
use Rattle.plant_text.specs.PlantText.{plant_of}
use Rattle.replay_core.specs.Legal.{IsLegal}
use Rattle.greedy_plan.specs.Greedy.{greedy_of, all_operations}
use Rattle.slot_box.specs.Boxes.{points_of}
use Rattle.slot_forms.specs.Cases.{plain, root_box}
use Rattle.command_line.specs.declared.command.Ask.{Ask}
use Rattle.command_line.specs.declared.command.Command.TheVariants.{Solve, Check, Replay, Show, Make}
use Rattle.crude_run.specs.Numbers.{plant_limit, plan_limit, dossier_limit, status_plan_found, status_infeasible, status_none_found, status_accepted, status_not_accepted, status_legal, status_illegal, status_plan_refused, status_shown, status_made, status_no_memory}
use Rattle.command_line.specs.PlainLine.{IsPlainLine}
use Rattle.crude_run.specs.Files.{Files}
use Rattle.crude_run.specs.Answered.{Outlet}

-- the file of this name is told, within the limit, and no read of it failed
pub record IsAtHand (files : Files) (name : List ℕ) (limit : ℕ) (file : List ℕ) : Type 0 where
  pub told : files.told name ≡ Some file
  pub short : length file ≤ limit
  pub read : Rose (files.faults_before name) (files.faults_after name) → ⊥

-- the plant file is at hand, and is a plant
pub record IsPlantAtHand (files : Files) (name : List ℕ) (parts : Parts) : Type 0 where
  pub file : List ℕ
  pub at_hand : IsAtHand files name plant_limit file
  pub accepted : plant_of file ≡ Ok parts

-- no write failed
abbrev pub NoWriteFailed : Outlet → Type 0
NoWriteFailed outlet = Rose outlet.faults_before outlet.faults_after → ⊥

-- the status is that of a dossier, or memory was wanting; that no plan was found it says only with a budget that cannot
-- single out each point of the root box, and where the greedy plan of all operations is not legal
abbrev pub HasDossierStatus : Parts → Ask → ℕ → Type 0
HasDossierStatus parts ask status =
    (status ≡ status_plan_found) ⊎ (status ≡ status_infeasible)
    ⊎ ((status ≡ status_none_found) × (points_of (root_box (plain parts ask.slots)) ≤ ask.nodes + 1 → ⊥)
    × (IsLegal parts (greedy_of parts ask.slots (all_operations parts)) → ⊥))
    ⊎ (status ≡ status_no_memory)

-- the status is that of a verdict, or memory was wanting
abbrev pub HasVerdictStatus : ℕ → Type 0
HasVerdictStatus status = (status ≡ status_accepted) ⊎ (status ≡ status_not_accepted) ⊎ (status ≡ status_no_memory)

-- the status is that of a replay: of a legal plan, of one that is not, or of bytes that are none; or memory was wanting
abbrev pub HasReplayStatus : ℕ → Type 0
HasReplayStatus status =
    (status ≡ status_legal) ⊎ (status ≡ status_illegal) ⊎ (status ≡ status_plan_refused) ⊎ (status ≡ status_no_memory)

-- the plant is shown, or memory was wanting
abbrev pub HasShownStatus : ℕ → Type 0
HasShownStatus status = (status ≡ status_shown) ⊎ (status ≡ status_no_memory)

-- the plant is made, and tried where that was asked; or memory was wanting
abbrev pub HasMadeStatus : ℕ → Type 0
HasMadeStatus status = (status ≡ status_made) ⊎ (status ≡ status_no_memory)

-- a plain line whose files are at hand, the first of them a plant, has been served, unless a write failed or memory was
-- wanting
pub record IsComplete (words : List (List ℕ)) (files : Files) (outlet : Outlet) (status : ℕ) : Type 0 where
  pub solves : (plant : List ℕ) (ask : Ask) (parts : Parts)
      → IsPlainLine words (Solve plant ask) → IsPlantAtHand files plant parts → NoWriteFailed outlet →
      HasDossierStatus parts ask status
  pub checks : (plant dossier file : List ℕ) (parts : Parts)
      → IsPlainLine words (Check plant dossier) → IsPlantAtHand files plant parts →
      IsAtHand files dossier dossier_limit file → NoWriteFailed outlet → HasVerdictStatus status
  pub replays : (plant plan file : List ℕ) (parts : Parts)
      → IsPlainLine words (Replay plant plan) → IsPlantAtHand files plant parts →
      IsAtHand files plan plan_limit file → NoWriteFailed outlet → HasReplayStatus status
  pub shows : (plant : List ℕ) (parts : Parts)
      → IsPlainLine words (Show plant) → IsPlantAtHand files plant parts → NoWriteFailed outlet → HasShownStatus status
  pub makes : (number : ℕ) (solve : Bool)
      → IsPlainLine words (Make number solve) → NoWriteFailed outlet → HasMadeStatus status
