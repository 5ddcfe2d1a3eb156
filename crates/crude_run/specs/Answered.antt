-- What the program answers to its words, by its files, and what its sink has taken in the end.
use Rattle.std.specs.Prelude.{◌≡◌, ◌≢◌, ◌⊎◌, ℕ, List, [], Option, Result, Ok, Err}
use Rattle.outer_edge.specs.Rose.{Rose}
use Rattle.outer_edge.specs.Takes.{Takes, TakesPart}
use Rattle.plant_model.specs.declared.parts.Parts.{Parts}
use Rattle.plant_text.specs.declared.fault.PlantTextFault.{PlantTextFault}
use Rattle.plant_text.specs.declared.fault.PlantTextFault.TheVariants as fault
use Rattle.plant_text.specs.PlantText.{plant_of}
use Rattle.crude_run.specs.declared.answer.Answer.{Answer}
use Rattle.command_line.specs.declared.command.Command.{Command}
use Rattle.command_line.specs.declared.command.Command.TheVariants.{Solve, Check, Replay, Show, Make, Root, Replan, Recheck}
use Rattle.crude_run.specs.Numbers.{plant_limit, plan_limit, dossier_limit, status_no_memory, status_write_failed}
use Rattle.command_line.specs.PlainLine.{IsPlainLine, AreRefused}
use Rattle.crude_run.specs.Files.{Files, FileRead, bytes, failed, longer, MayGive}
use Rattle.crude_run.specs.Texts.{words_refused, json_refused, shape_refused, fault_refused, read_failed, too_long}
use Rattle.crude_run.specs.Solving.{Solves}
use Rattle.crude_run.specs.Checking.{Checks}
use Rattle.crude_run.specs.Replaying.{Replays, Shows}
use Rattle.crude_run.specs.Making.{Makes}

-- the answer to what a plant text is: to its plant, or the first reason why it is none
abbrev pub OfPlant : (Parts → Answer → Type 0) → Result Parts PlantTextFault → Answer → Type 0
OfPlant Then (Ok parts) answer = Then parts answer
OfPlant Then (Err fault.Json) answer = answer ≡ json_refused
OfPlant Then (Err (fault.Shape place)) answer = answer ≡ shape_refused place
OfPlant Then (Err (fault.Plant found)) answer = answer ≡ fault_refused found
OfPlant Then (Err fault.Memory) answer = ⊥

-- the answer to what reading the command's file of this number gave: to its bytes, or why there are none
abbrev pub OfRead : ℕ → (List ℕ → Answer → Type 0) → FileRead → Answer → Type 0
OfRead number Then (bytes found) answer = Then found answer
OfRead number Then failed answer = answer ≡ read_failed number
OfRead number Then longer answer = answer ≡ too_long number

-- the answer to that file, which has this name and limit
abbrev pub OfFile : Files → ℕ → List ℕ → ℕ → (List ℕ → Answer → Type 0) → Answer → Type 0
OfFile files number name limit Then answer = (read : FileRead) × MayGive files name limit read ×
    OfRead number Then read answer

-- the answer to the plant file, which a command names first
abbrev pub OfPlantFile : Files → List ℕ → (Parts → Answer → Type 0) → Answer → Type 0
OfPlantFile files name Then answer = OfFile files 1 name plant_limit (λ text. OfPlant Then (plant_of text)) answer

-- so far the answer to a line of a command that is not built yet: such a line is refused like one that is not plain
abbrev pub IsNotBuilt : Answer → Type 0
IsNotBuilt answer = answer ≡ words_refused

-- the answer that a command calls for, by these files
abbrev pub Serves : Command → Files → Answer → Type 0
Serves (Solve plant ask) files answer = OfPlantFile files plant (λ parts. Solves parts ask.slots ask.nodes ask.workers) answer
Serves (Check plant dossier) files answer =
    OfPlantFile files plant (λ parts. OfFile files 2 dossier dossier_limit (Checks parts)) answer
Serves (Replay plant plan) files answer =
    OfPlantFile files plant (λ parts. OfFile files 2 plan plan_limit (Replays parts)) answer
Serves (Show plant) files answer = OfPlantFile files plant Shows answer
Serves (Make number solve) files answer = Makes number solve answer
Serves (Root plant slots) files answer = IsNotBuilt answer
Serves (Replan plant plan at slots nodes) files answer = IsNotBuilt answer
Serves (Recheck plant plan dossier at) files answer = IsNotBuilt answer

-- the answer that words call for: a refusal where they are no plain line, else that of their command
abbrev pub CallsFor : List (List ℕ) → Files → Answer → Type 0
CallsFor words files answer = (AreRefused words × (answer ≡ words_refused)) ⊎
    ((command : Command) × IsPlainLine words command × Serves command files answer)

-- what a sink tells that it has taken, and its count of faults, before and after a run
pub record Outlet : Type 0 where
  pub taken_before : Option (List ℕ)
  pub taken_after : Option (List ℕ)
  pub faults_before : ℕ
  pub faults_after : ℕ

-- the outlet between two states of a sink that tells and counts so
abbrev pub outlet_between : {Sink : Type 0} → (Sink → Option (List ℕ)) → (Sink → ℕ) → Sink → Sink → Outlet
outlet_between taken faults before after =
    record {
      taken_before = taken before;
      taken_after = taken after;
      faults_before = faults before;
      faults_after = faults after;
    }

-- a run that owed such an answer has ended with this status
pub record Answered (Owed : Answer → Type 0) (outlet : Outlet) (status : ℕ) : Type 0 where
  -- want of memory: nothing is written
  pub memory : status ≡ status_no_memory → Takes outlet.taken_before outlet.taken_after []
  -- the sink failed, which its count shows: a first part of the answer's text is written
  pub broken_off : status ≡ status_write_failed → Rose outlet.faults_before outlet.faults_after ×
      ((answer : Answer) × Owed answer × TakesPart outlet.taken_before outlet.taken_after answer.text)
  -- else the status is that of the answer, and the whole of its text is written
  pub whole : status ≢ status_no_memory → status ≢ status_write_failed → (answer : Answer) × (answer.status ≡ status) ×
      Owed answer × Takes outlet.taken_before outlet.taken_after answer.text
