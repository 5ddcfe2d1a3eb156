-- A run that nothing hindered has served its words.
use Rattle.std.proofs.Common.{◌≡◌, ℕ, Bool, true, false, inl, inr, ◌+◌, ◌≤◌, ◌<◌, List, length, refl, sym, ap, ◌∙◌, subst, arith}
use Rattle.std.specs.Prelude.{IfSome}
use Rattle.std.proofs.lemmas.Bool.{cases_eq}
use Rattle.plant_model.specs.declared.parts.Parts.{Parts}
use Rattle.plant_text.specs.PlantText.{plant_of}
use Rattle.replay_core.specs.Legal.{IsLegal}
use Rattle.greedy_plan.specs.Greedy.{greedy_of, all_operations}
use Rattle.slot_box.specs.Boxes.{points_of}
use Rattle.slot_forms.specs.Cases.{plain, root_box}
use Rattle.dossier_text.specs.declared.dossier.Word3.{Word3}
use Rattle.dossier_text.specs.declared.dossier.Word3.TheVariants.{Plan, Infeasible, Open3}
use Rattle.crude_run.specs.declared.answer.Answer.{Answer}
use Rattle.command_line.specs.declared.command.Ask.{Ask}
use Rattle.command_line.specs.declared.command.Command.{Command}
use Rattle.command_line.specs.declared.command.Command.TheVariants.{Solve, Check, Replay, Show, Make}
use Rattle.crude_run.specs.Numbers.{plant_limit, status_no_memory, status_write_failed}
use Rattle.command_line.specs.PlainLine.{IsPlainLine, HasOneCommand}
use Rattle.crude_run.specs.Files.{Files, bytes, failed, longer}
use Rattle.crude_run.specs.Solving.{status_of, Solves}
use Rattle.crude_run.specs.Checking.{Checks}
use Rattle.crude_run.specs.Replaying.{Replays, Shows}
use Rattle.crude_run.specs.Making.{Makes}
use Rattle.crude_run.specs.Answered.{OfPlant, OfFile, OfPlantFile, Serves, CallsFor, Outlet, Answered}
use Rattle.crude_run.specs.Completeness.{IsAtHand, IsPlantAtHand, NoWriteFailed, HasDossierStatus, HasVerdictStatus, HasReplayStatus, HasShownStatus, HasMadeStatus, IsComplete}

-- ---- statuses

-- the status of a dossier
dossier_status : (parts : Parts) (ask : Ask) (answer : Answer) → Solves parts ask.slots ask.nodes ask.workers answer → HasDossierStatus parts ask answer.status
dossier_status parts ask answer solved = by_word solved.dossier.answer refl
  where
    by_word : (word : Word3) → solved.dossier.answer ≡ word → HasDossierStatus parts ask answer.status
    by_word Plan is = inl (solved.status ∙ ap status_of is)
    by_word Infeasible is = inr (inl (solved.status ∙ ap status_of is))
    by_word Open3 is = inr (inr (inl (solved.status ∙ ap status_of is, open_only, not_greedy)))
      where
        open_only : points_of (root_box (plain parts ask.slots)) ≤ ask.nodes + 1 → ⊥
        open_only few =
            elim (solved.solution.decided few) [
              | inl none ↦ absurd (let clash : Open3 ≡ Infeasible = sym is ∙ none in cc)
              | inr plan ↦ absurd (let clash : Open3 ≡ Plan = sym is ∙ plan.0 in cc)
            ]

        not_greedy : IsLegal parts (greedy_of parts ask.slots (all_operations parts)) → ⊥
        not_greedy legal = (let clash : Open3 ≡ Plan = sym is ∙ (solved.solution.no_worse legal).0 in absurd cc)

-- the status of a verdict
verdict_status : (parts : Parts) (text : List ℕ) (answer : Answer) → Checks parts text answer → HasVerdictStatus answer.status
verdict_status parts text answer (inl accepted) = inl (ap (λ a. a.status) accepted.says)
verdict_status parts text answer (inr refused) = inr (inl (ap (λ a. a.status) refused.says))

-- the status of a replay
replay_status : (parts : Parts) (text : List ℕ) (answer : Answer) → Replays parts text answer → HasReplayStatus answer.status
replay_status parts text answer (inl is) =
    elim is.replayed [
      | inl legal ↦ inl (ap (λ a. a.status) legal.says)
      | inr illegal ↦ inr (inl (ap (λ a. a.status) illegal.says))
    ]
replay_status parts text answer (inr none) = inr (inr (inl (ap (λ a. a.status) none.says)))

-- the status of a plant that is shown
shown_status : (parts : Parts) (answer : Answer) → Shows parts answer → HasShownStatus answer.status
shown_status parts answer owed = inl (ap (λ a. a.status) owed)

-- the status of a plant that is made
made_status : (number : ℕ) (solve : Bool) (answer : Answer) → Makes number solve answer → HasMadeStatus answer.status
made_status number false answer shown = inl (ap (λ a. a.status) shown)
made_status number true answer tries = inl (ap (λ a. a.status) tries.says)

-- ---- files at hand

-- what is read of a file at hand is the file
of_at_hand : (files : Files) (number : ℕ) (name : List ℕ) (limit : ℕ) (file : List ℕ) (Then : List ℕ → Answer → Type 0) (answer : Answer) →
    IsAtHand files name limit file → OfFile files number name limit Then answer → Then file answer
of_at_hand files number name limit file Then answer is (bytes found, may, owed) =
    let same : found ≡ file = subst (λ told. IfSome told (λ text. found ≡ text)) is.told may.1 in
    subst (λ text. Then text answer) same owed
of_at_hand files number name limit file Then answer is (failed, may, owed) = absurd (is.read may)
of_at_hand files number name limit file Then answer is (longer, may, owed) =
    let past : limit < length file = subst (λ told. IfSome told (λ text. limit < length text)) is.told may.1 in
    absurd (let short = is.short in omega arith)

-- and the plant is that of the file
of_plant_at_hand : (files : Files) (name : List ℕ) (parts : Parts) (Then : Parts → Answer → Type 0) (answer : Answer) → IsPlantAtHand files name parts →
    OfPlantFile files name Then answer → Then parts answer
of_plant_at_hand files name parts Then answer is owed =
    subst (λ read. OfPlant Then read answer) is.accepted
    (of_at_hand files 1 name plant_limit is.file (λ text. OfPlant Then (plant_of text)) answer is.at_hand owed)

-- ---- the run

-- what words call for that are the line of a command is what the command calls for
called : HasOneCommand → (words : List (List ℕ)) (command : Command) (files : Files) (answer : Answer) → IsPlainLine words command → CallsFor words files answer
    → Serves command files answer
called one words command files answer line (inl refused) = absurd (refused.0 command line)
called one words command files answer line (inr (other, plain, serves)) =
    subst (λ c. Serves c files answer) (one words other command plain line) serves

-- a run whose writes did not fail has the status of the answer, or memory was wanting
ended : (P : ℕ → Type 0) (Owed : Answer → Type 0) (outlet : Outlet) (status : ℕ) → NoWriteFailed outlet → P status_no_memory →
    ((answer : Answer) → Owed answer → P answer.status) → Answered Owed outlet status → P status
ended P Owed outlet status sent memory served answered =
    elim (cases_eq status status_no_memory) [
      | inl full ↦ subst P (sym full) memory
      | inr room ↦
          elim (cases_eq status status_write_failed) [
            | inl cut ↦ absurd (sent (answered.broken_off cut).0)
            | inr written ↦ let whole = answered.whole room written in subst P whole.1 (served whole.0 whole.2)
          ]
    ]

-- so a run is complete
pub IsComplete-from : HasOneCommand → (words : List (List ℕ)) (files : Files) (outlet : Outlet) (status : ℕ) → Answered (CallsFor words files) outlet status →
    IsComplete words files outlet status
IsComplete-from one words files outlet status answered = record {
  solves = λ plant ask parts line there sent.
      ended (HasDossierStatus parts ask) (CallsFor words files) outlet status sent (inr (inr (inr refl)))
      (λ answer owed. dossier_status parts ask answer
      (of_plant_at_hand files plant parts _ answer there (called one words (Solve plant ask) files answer line owed))) answered;
  checks = λ plant dossier file parts line there second sent.
      ended HasVerdictStatus (CallsFor words files) outlet status sent (inr (inr refl))
      (λ answer owed. verdict_status parts file answer
      (of_at_hand files 2 dossier _ file (Checks parts) answer second
      (of_plant_at_hand files plant parts _ answer there (called one words (Check plant dossier) files answer line owed)))) answered;
  replays = λ plant plan file parts line there second sent.
      ended HasReplayStatus (CallsFor words files) outlet status sent (inr (inr (inr refl)))
      (λ answer owed. replay_status parts file answer
      (of_at_hand files 2 plan _ file (Replays parts) answer second
      (of_plant_at_hand files plant parts _ answer there (called one words (Replay plant plan) files answer line owed)))) answered;
  shows = λ plant parts line there sent.
      ended HasShownStatus (CallsFor words files) outlet status sent (inr refl)
      (λ answer owed. shown_status parts answer
      (of_plant_at_hand files plant parts Shows answer there (called one words (Show plant) files answer line owed))) answered;
  makes = λ number solve line sent.
      ended HasMadeStatus (CallsFor words files) outlet status sent (inr refl)
      (λ answer owed. made_status number solve answer (called one words (Make number solve) files answer line owed)) answered;
}
