-- Levels that places keep as a run goes on.
use Rattle.std.specs.Prelude.{ℕ, ◌<◌, ◌≤◌, Bool, true, false, IsTrue, List, sum}
use Rattle.plant_model.specs.declared.parts.Parts.{Parts}
use Rattle.plant_model.specs.declared.details.PlaceKind.{PlaceKind}
use Rattle.plant_model.specs.declared.details.PlaceKind.TheVariants.{Vessel, Storage, Charging, Unit as DistillationUnit}
use Rattle.plant_model.specs.Parts.{place_count_of, place_of}
use Rattle.replay_core.specs.declared.timed.Timed.{Timed}
use Rattle.word_flows.specs.Runs.{IsRun}
use Rattle.word_flows.specs.Flows.{held_after}

-- the place is a tank, which has a level that it must not pass
abbrev pub is_tank : PlaceKind → Bool
is_tank Vessel = false
is_tank Storage = true
is_tank Charging = true
is_tank DistillationUnit = false

-- no place ever holds less than its minimum, which is 0 where it is no tank
abbrev pub MinimumsAreKept : Parts → Type 0
MinimumsAreKept parts =
    (word : List Timed) (p k : ℕ) → IsRun parts word → p < place_count_of parts
    → (place_of parts p).min ≤ sum (held_after parts word p k)

-- no tank ever holds more than its maximum
abbrev pub MaximumsAreKept : Parts → Type 0
MaximumsAreKept parts =
    (word : List Timed) (p k : ℕ) → IsRun parts word → p < place_count_of parts
    → IsTrue (is_tank (place_of parts p).kind) → sum (held_after parts word p k) ≤ (place_of parts p).max
