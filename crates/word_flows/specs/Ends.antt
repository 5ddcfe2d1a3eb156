-- What stands at the end of a word that breaks no rule, place by place.
use Rattle.std.specs.Prelude.{◌≡◌, ℕ, ◌<◌, IsTrue, List, sum}
use Rattle.plant_model.specs.declared.parts.Parts.{Parts}
use Rattle.plant_model.specs.declared.details.PlaceKind.TheVariants.{Vessel, Charging, Unit as DistillationUnit}
use Rattle.plant_model.specs.Parts.{horizon_of, place_count_of, place_of}
use Rattle.replay_core.specs.declared.timed.Timed.{Timed}
use Rattle.replay_core.specs.declared.order.Order.{Order}
use Rattle.replay_core.specs.State.{held_of, state_after}
use Rattle.replay_core.specs.Counts.{charges_of, minutes_of, charged_of}
use Rattle.replay_core.specs.Legal.{IsLegalIn}
use Rattle.word_flows.specs.Runs.{IsRun}
use Rattle.word_flows.specs.Steps.{IsInside}

-- each vessel is empty; of each charging tank what is demanded was charged; each unit got as many charges as it takes,
-- and a continuous one was charged for as many minutes as the horizon has
pub record EndsWell (parts : Parts) (word : List Timed) : Type 0 where
  pub vessels : (p : ℕ) → p < place_count_of parts → (place_of parts p).kind ≡ Vessel
      → sum (held_of (state_after parts word) p) ≡ 0
  pub demands : (p : ℕ) → p < place_count_of parts → (place_of parts p).kind ≡ Charging
      → IsInside (place_of parts p).demand (charged_of parts word p)
  pub charges : (p : ℕ) → p < place_count_of parts → (place_of parts p).kind ≡ DistillationUnit
      → IsInside (place_of parts p).charges (charges_of parts word p)
  pub minutes : (p : ℕ) → p < place_count_of parts → (place_of parts p).kind ≡ DistillationUnit
      → IsTrue (place_of parts p).continuous → minutes_of parts word p ≡ horizon_of parts

-- whatever the order that is asked for, a word that breaks no rule is a run and ends well
abbrev pub LegalWordsEndWell : Parts → Type 0
LegalWordsEndWell parts =
    (order : Order) (word : List Timed) → IsLegalIn parts order word → IsRun parts word × EndsWell parts word
