-- How a run ends that owed an answer.
use Rattle.std.proofs.Common.{◌<◌, ℕ, Bool, true, false, List, Result, Ok, Err, inl, inr, arith}
use Rattle.plant_model.specs.declared.parts.Parts.{Parts}
use Rattle.plant_text.specs.declared.fault.PlantTextFault.{PlantTextFault}
use Rattle.plant_text.specs.declared.fault.PlantTextFault.TheVariants as fault
use Rattle.plant_text.specs.PlantText.{plant_of}
use Rattle.dossier_text.specs.declared.dossier.Word3.{Word3}
use Rattle.dossier_text.specs.declared.dossier.Word3.TheVariants.{Plan, Infeasible, Open3}
use Rattle.crude_run.specs.declared.answer.Answer.{Answer}
use Rattle.command_line.specs.declared.command.Command.{Command}
use Rattle.command_line.specs.declared.command.Command.TheVariants.{Solve, Check, Replay, Show, Make, Root, Replan, Recheck}
use Rattle.crude_run.specs.Files.{Files, FileRead, bytes, failed, longer}
use Rattle.crude_run.specs.Solving.{status_of, Solves}
use Rattle.crude_run.specs.Checking.{Checks}
use Rattle.crude_run.specs.Replaying.{IsReplay, Replays, Shows}
use Rattle.crude_run.specs.Making.{Makes}
use Rattle.crude_run.specs.Answered.{OfPlant, OfRead, Serves}

-- ---- statuses

status_below : (answer : Word3) → status_of answer < 71
status_below Plan = omega arith
status_below Infeasible = omega arith
status_below Open3 = omega arith

solves_below : (parts : Parts) (n budget workers : ℕ) (answer : Answer) → Solves parts n budget workers answer → answer.status < 71
solves_below parts n budget workers answer owed = rw owed.status (status_below owed.dossier.answer)

checks_below : (parts : Parts) (text : List ℕ) (answer : Answer) → Checks parts text answer → answer.status < 71
checks_below parts text answer (inl accepted) = rw accepted.says (omega arith)
checks_below parts text answer (inr refused) = rw refused.says (omega arith)

replay_below : (parts : Parts) (text : List ℕ) (answer : Answer) → IsReplay parts text answer → answer.status < 71
replay_below parts text answer is =
    elim is.replayed [ inl legal ↦ rw legal.says (omega arith) | inr illegal ↦ rw illegal.says (omega arith) ]

replays_below : (parts : Parts) (text : List ℕ) (answer : Answer) → Replays parts text answer → answer.status < 71
replays_below parts text answer (inl is) = replay_below parts text answer is
replays_below parts text answer (inr none) = rw none.says (omega arith)

shows_below : (parts : Parts) (answer : Answer) → Shows parts answer → answer.status < 71
shows_below parts answer owed = rw owed (omega arith)

pub makes_below : (number : ℕ) (solve : Bool) (answer : Answer) → Makes number solve answer → answer.status < 71
makes_below number false answer owed = rw owed (omega arith)
makes_below number true answer owed = rw owed.says (omega arith)

plant_below : (Then : Parts → Answer → Type 0) → ((parts : Parts) (answer : Answer) → Then parts answer → answer.status < 71)
    → (read : Result Parts PlantTextFault) (answer : Answer) → OfPlant Then read answer → answer.status < 71
plant_below Then below (Ok parts) answer owed = below parts answer owed
plant_below Then below (Err fault.Json) answer owed = rw owed (omega arith)
plant_below Then below (Err (fault.Shape place)) answer owed = rw owed (omega arith)
plant_below Then below (Err (fault.Plant found)) answer owed = rw owed (omega arith)
plant_below Then below (Err fault.Memory) answer owed = absurd owed

read_below : (number : ℕ) (Then : List ℕ → Answer → Type 0) → ((found : List ℕ) (answer : Answer) → Then found answer → answer.status < 71)
    → (read : FileRead) (answer : Answer) → OfRead number Then read answer → answer.status < 71
read_below number Then below (bytes found) answer owed = below found answer owed
read_below number Then below failed answer owed = rw owed (omega arith)
read_below number Then below longer answer owed = rw owed (omega arith)

-- an answer that a command calls for has a status below those of runs that end short
pub serves_below : (command : Command) (files : Files) (answer : Answer) → Serves command files answer → answer.status < 71
serves_below (Solve plant ask) files answer (read, may, owed) =
    read_below 1 _ (λ text. plant_below _ (λ parts. solves_below parts ask.slots ask.nodes ask.workers) (plant_of text)) read answer owed
serves_below (Check plant dossier) files answer (read, may, owed) =
    read_below 1 _ (λ text. plant_below _ (λ parts due second. read_below 2 _ (checks_below parts) second.0 due second.2) (plant_of text)) read answer owed
serves_below (Replay plant plan) files answer (read, may, owed) =
    read_below 1 _ (λ text. plant_below _ (λ parts due second. read_below 2 _ (replays_below parts) second.0 due second.2) (plant_of text)) read answer owed
serves_below (Show plant) files answer (read, may, owed) =
    read_below 1 _ (λ text. plant_below _ shows_below (plant_of text)) read answer owed
serves_below (Make number solve) files answer owed = makes_below number solve answer owed
serves_below (Root plant slots) files answer refused = rw refused (omega arith)
serves_below (Replan plant plan at slots nodes) files answer refused = rw refused (omega arith)
serves_below (Recheck plant plan dossier at) files answer refused = rw refused (omega arith)
