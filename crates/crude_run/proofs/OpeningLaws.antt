-- What the reads of a command may have given, carried over its other reads.
use Rattle.std.proofs.Common.{ℕ, List, Option, Result, Ok, Err, sym, subst, arith}
use Rattle.plant_model.specs.declared.parts.Parts.{Parts}
use Rattle.plant_text.specs.declared.fault.PlantTextFault.{PlantTextFault}
use Rattle.plant_text.specs.declared.fault.PlantTextFault.TheVariants as fault
use Rattle.plant_text.specs.PlantText.{plant_of}
use Rattle.crude_run.specs.declared.answer.Answer.{Answer}
use Rattle.crude_run.specs.declared.opening.Stop.{Stop}
use Rattle.crude_run.specs.declared.opening.Stop.TheVariants as stop
use Rattle.crude_run.specs.Numbers.{plant_limit}
use Rattle.crude_run.specs.Files.{Files, FileRead, bytes, failed, longer, MayGive, files_between}
use Rattle.crude_run.specs.Answered.{OfPlant, OfRead, OfFile, OfPlantFile}
use Rattle.crude_run.specs.Stopping.{OnStop, IfStopped, NoAnswer, MayGivePlant, MayGiveBoth, IsLater}

-- ---- where no answer comes of what is read, none is missing

read_anywhere : (number : ℕ) (Then : List ℕ → Answer → Type 0) (read : FileRead) (answer : Answer) → OfRead number NoAnswer read answer →
    OfRead number Then read answer
read_anywhere number Then (bytes found) answer owed = absurd owed
read_anywhere number Then failed answer owed = owed
read_anywhere number Then longer answer owed = owed

-- the answer where the text of the plant file has stopped a command
pub stopped_text : {X : Type 0} (files : Files) (name found : List ℕ) (made : Result X Stop) → MayGive files name plant_limit (bytes found) →
    IfStopped made (OfPlant NoAnswer (plant_of found)) → IfStopped made (OfPlantFile files name NoAnswer)
stopped_text files name found (Ok x) may owed = tt
stopped_text files name found (Err (stop.Due answer)) may owed = (bytes found, may, owed)
stopped_text files name found (Err stop.Memory) may owed = tt

-- the answer to a plant that the plant file may have given
pub of_plant : (files : Files) (name : List ℕ) (parts : Parts) (Then : Parts → Answer → Type 0) (answer : Answer) → MayGivePlant files name parts →
    Then parts answer → OfPlantFile files name Then answer
of_plant files name parts Then answer given owed =
    (bytes given.file, given.may, subst (λ read. OfPlant Then read answer) (sym given.is) owed)

-- ---- two reads

module _ {Shelf : Type 0} (told : Shelf → List ℕ → Option (List ℕ)) (faults : Shelf → List ℕ → ℕ) (longs : Shelf → List ℕ → ℕ → ℕ)
    (before between after : Shelf) where
  -- what an earlier read may have given
  may_until : IsLater told faults longs between after → (name : List ℕ) (limit : ℕ) (read : FileRead)
      → MayGive (files_between told faults longs before between) name limit read → MayGive (files_between told faults longs before after) name limit read
  may_until later name limit (bytes found) may = may
  may_until later name limit failed may = let stay = later.faults_stay name in omega arith
  may_until later name limit longer may = (let stay = later.longs_stay name limit in let rose = may.0 in omega arith, may.1)

  -- what a later read may have given
  may_since : IsLater told faults longs before between → (name : List ℕ) (limit : ℕ) (read : FileRead)
      → MayGive (files_between told faults longs between after) name limit read → MayGive (files_between told faults longs before after) name limit read
  may_since later name limit (bytes found) may = rw (← later.told_stays) may
  may_since later name limit failed may = let stay = later.faults_stay name in omega arith
  may_since later name limit longer may = (let stay = later.longs_stay name limit in let rose = may.0 in omega arith, rw (← later.told_stays) may.1)

  -- a plant of the first read, and the bytes of the second
  pub both_given : IsLater told faults longs before between → IsLater told faults longs between after → (name : List ℕ) (parts : Parts) →
      MayGivePlant (files_between told faults longs before between) name parts → (other : List ℕ) (limit : ℕ) (found : List ℕ) →
      MayGive (files_between told faults longs between after) other limit (bytes found) →
      MayGiveBoth (files_between told faults longs before after) name other limit parts found
  both_given first second name parts given other limit found may = record {
    plant = record { file = given.file; may = may_until second name plant_limit (bytes given.file) given.may; is = given.is };
    second = may_since first other limit (bytes found) may;
  }

  -- a second file that has stopped a command
  pub stopped_second : IsLater told faults longs before between → IsLater told faults longs between after → (name : List ℕ) (parts : Parts) →
      MayGivePlant (files_between told faults longs before between) name parts → (other : List ℕ) (limit : ℕ) (stopped : Stop) →
      OnStop stopped (OfFile (files_between told faults longs between after) 2 other limit NoAnswer)
      → OnStop stopped (OfPlantFile (files_between told faults longs before after) name
      (λ plant. OfFile (files_between told faults longs before after) 2 other limit NoAnswer))
  stopped_second first second name parts given other limit (stop.Due answer) (read, may, owed) =
      of_plant (files_between told faults longs before after) name parts _ answer
      (record { file = given.file; may = may_until second name plant_limit (bytes given.file) given.may; is = given.is })
      (read, may_since first other limit read may, owed)
  stopped_second first second name parts given other limit stop.Memory owed = tt

-- ---- the answer to both files

pub of_both : (files : Files) (name other : List ℕ) (limit : ℕ) (parts : Parts) (found : List ℕ) (Then : Parts → List ℕ → Answer → Type 0) (answer : Answer) →
    MayGiveBoth files name other limit parts found → Then parts found answer →
    OfPlantFile files name (λ plant. OfFile files 2 other limit (Then plant)) answer
of_both files name other limit parts found Then answer given owed =
    of_plant files name parts (λ plant. OfFile files 2 other limit (Then plant)) answer given.plant (bytes found, given.second, owed)

-- where no answer comes of the bytes of the second file, none is missing
plant_anywhere : (Then Other : Parts → Answer → Type 0) → ((parts : Parts) (answer : Answer) → Then parts answer → Other parts answer) →
    (read : Result Parts PlantTextFault) (answer : Answer) → OfPlant Then read answer → OfPlant Other read answer
plant_anywhere Then Other goes (Ok parts) answer owed = goes parts answer owed
plant_anywhere Then Other goes (Err fault.Json) answer owed = owed
plant_anywhere Then Other goes (Err (fault.Shape place)) answer owed = owed
plant_anywhere Then Other goes (Err (fault.Plant found)) answer owed = owed
plant_anywhere Then Other goes (Err fault.Memory) answer owed = owed

both_anywhere : (files : Files) (name other : List ℕ) (limit : ℕ) (Then : Parts → List ℕ → Answer → Type 0) (answer : Answer) →
    OfPlantFile files name (λ plant. OfFile files 2 other limit NoAnswer) answer →
    OfPlantFile files name (λ plant. OfFile files 2 other limit (Then plant)) answer
both_anywhere files name other limit Then answer (bytes text, may, owed) = (
  bytes text,
  may,
  plant_anywhere _ _ (λ parts due second. (second.0, second.1, read_anywhere 2 (Then parts) second.0 due second.2)) (plant_of text) answer
      owed,
)
both_anywhere files name other limit Then answer (failed, may, owed) = (failed, may, owed)
both_anywhere files name other limit Then answer (longer, may, owed) = (longer, may, owed)

-- a command that was stopped before it had both
pub stopped_both : (files : Files) (name other : List ℕ) (limit : ℕ) (Then : Parts → List ℕ → Answer → Type 0) (stopped : Stop) →
    OnStop stopped (OfPlantFile files name (λ plant. OfFile files 2 other limit NoAnswer)) →
    OnStop stopped (OfPlantFile files name (λ plant. OfFile files 2 other limit (Then plant)))
stopped_both files name other limit Then (stop.Due answer) owed = both_anywhere files name other limit Then answer owed
stopped_both files name other limit Then stop.Memory owed = tt
