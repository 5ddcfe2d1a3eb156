-- What a word has charged, as sums over its operations by their numbers.
use Rattle.std.specs.Prelude.{◌≡◌, ℕ, ◌-◌, Bool, if◌then◌else◌, List, length, sum}
use Rattle.number_laws.specs.Sums.{sum_below}
use Rattle.plant_model.specs.declared.parts.Parts.{Parts}
use Rattle.plant_model.specs.declared.details.PlaceKind.TheVariants.{Charging}
use Rattle.plant_model.specs.Parts.{place_of}
use Rattle.replay_core.specs.declared.timed.Timed.{Timed}
use Rattle.replay_core.specs.Counts.{charges_unit, charges_from, charges_of, minutes_of, charged_of}
use Rattle.replay_core.specs.Steps.{step_at}
use Rattle.word_flows.specs.Runs.{IsRun}
use Rattle.word_flows.specs.Flows.{out_of}

-- the numbers of the operations that the test chooses, summed over the word
abbrev pub sum_over : List Timed → (Timed → Bool) → (Timed → ℕ) → ℕ
sum_over word chosen number =
    sum_below (length word) (λ k. if chosen (step_at word k) then number (step_at word k) else 0)

-- charges of unit p count 1 each, or their minutes; charges from tank p their volume
pub record CountsAreSums (parts : Parts) (word : List Timed) (p : ℕ) : Type 0 where
  pub charges : charges_of parts word p ≡ sum_over word (charges_unit parts p) (λ _. 1)
  pub minutes : minutes_of parts word p ≡ sum_over word (charges_unit parts p) (λ (t : Timed). t.end - t.start)
  pub charged : charged_of parts word p ≡ sum_over word (charges_from parts p) (λ (t : Timed). t.volume)

-- so it is at each place, whatever the word
abbrev pub CountsAreSumsOfSteps : Parts → Type 0
CountsAreSumsOfSteps parts = (word : List Timed) (p : ℕ) → CountsAreSums parts word p

-- all that a run draws from a charging tank is charged
abbrev pub ChargesAreDrawn : Parts → Type 0
ChargesAreDrawn parts =
    (word : List Timed) (p : ℕ) → IsRun parts word → (place_of parts p).kind ≡ Charging
    → charged_of parts word p ≡ out_of sum parts word p (length word)
