-- How a command stops before its work is done, and what is due then. No promise of the program is made of these words.
use Rattle.std.specs.Prelude.{◌≡◌, ◌<◌, ◌≤◌, List, ℕ, ⊤, Option, Result, Ok, Err}
use Rattle.plant_model.specs.declared.parts.Parts.{Parts}
use Rattle.plant_text.specs.PlantText.{plant_of}
use Rattle.std.specs.declared.alloc.AllocError.{AllocError}
use Rattle.crude_run.specs.declared.answer.Answer.{Answer}
use Rattle.crude_run.specs.declared.opening.Stop.{Stop}
use Rattle.crude_run.specs.declared.opening.Stop.TheVariants.{Due, Memory}
use Rattle.crude_run.specs.Numbers.{plant_limit, status_read_failed, status_too_long}
use Rattle.crude_run.specs.Files.{Files, bytes, MayGive}

-- what is so of the answer with which a command stops
abbrev pub OnStop : Stop → (Answer → Type 0) → Type 0
OnStop (Due answer) P = P answer
OnStop Memory P = ⊤

-- what is so of the answer that is due, if a command stops there
abbrev pub IfStopped : {X : Type 0} → Result X Stop → (Answer → Type 0) → Type 0
IfStopped (Ok x) P = ⊤
IfStopped (Err stopped) P = OnStop stopped P

-- what is so of the answer that is due in the end, by the work or where it stops
abbrev pub IfDue : Result Answer Stop → (Answer → Type 0) → Type 0
IfDue (Ok answer) P = P answer
IfDue (Err stopped) P = OnStop stopped P

-- this answer is due in the end
abbrev pub IsDue : Result Answer Stop → Answer → Type 0
IsDue (Ok due) answer = answer ≡ due
IsDue (Err (Due due)) answer = answer ≡ due
IsDue (Err Memory) answer = ⊥

-- no answer comes of what is read
abbrev pub NoAnswer : {X : Type 0} → X → Answer → Type 0
NoAnswer x answer = ⊥

-- the plant file may have given this plant
pub record MayGivePlant (files : Files) (name : List ℕ) (parts : Parts) : Type 0 where
  pub file : List ℕ
  pub may : MayGive files name plant_limit (bytes file)
  pub is : plant_of file ≡ Ok parts

-- the plant file may have given this plant, and the second file these bytes
pub record MayGiveBoth (files : Files) (name other : List ℕ) (limit : ℕ) (parts : Parts) (found : List ℕ) : Type 0 where
  pub plant : MayGivePlant files name parts
  pub second : MayGive files other limit (bytes found)

-- a stop with the answer, where there was memory for it
abbrev pub stop_of : Result Answer AllocError → Stop
stop_of (Ok answer) = Due answer
stop_of (Err refused) = Memory

-- from one state of a shelf to a later one it tells the same of the files, and no count falls
pub record IsLater {Shelf : Type 0} (told : Shelf → List ℕ → Option (List ℕ)) (faults : Shelf → List ℕ → ℕ)
    (longs : Shelf → List ℕ → ℕ → ℕ) (before after : Shelf) : Type 0 where
  pub told_stays : told after ≡ told before
  pub faults_stay : (other : List ℕ) → faults before other ≤ faults after other
  pub longs_stay : (other : List ℕ) (most : ℕ) → longs before other most ≤ longs after other most

-- the command stops, with an answer of this status where there is memory for it
abbrev pub StopsWith : {X : Type 0} → ℕ → Result X Stop → Type 0
StopsWith status (Ok x) = ⊥
StopsWith status (Err stopped) = OnStop stopped (λ answer. answer.status ≡ status)

-- what was read shows each fault that the shelf counted: the command stops there, and says so
pub record ShowsFaults {X : Type 0} (files : Files) (made : Result X Stop) : Type 0 where
  pub failed : (name : List ℕ) → files.faults_before name < files.faults_after name → StopsWith status_read_failed made
  pub longer : (name : List ℕ) (limit : ℕ) → files.longs_before name limit < files.longs_after name limit →
      StopsWith status_too_long made
