-- When the last unloading of a vessel ends.
use Rattle.std.specs.Prelude.{◌≡◌, ℕ, ◌<◌, ◌≤◌, IsTrue, List, length}
use Rattle.plant_model.specs.declared.parts.Parts.{Parts}
use Rattle.replay_core.specs.declared.timed.Timed.{Timed}
use Rattle.replay_core.specs.Counts.{unloads_from, last_end_of}
use Rattle.replay_core.specs.Steps.{step_at}

-- operation k of the word unloads vessel p
pub record Unloads (parts : Parts) (word : List Timed) (p k : ℕ) : Type 0 where
  pub there : k < length word
  pub unloads : IsTrue (unloads_from parts p (step_at word k))

-- the last end of vessel p is the end of one of its unloadings, where there is one, and each of them ends by then; of a
-- vessel that is not unloaded it is 0
pub record IsLastEnd (parts : Parts) (word : List Timed) (p : ℕ) : Type 0 where
  pub each : (k : ℕ) → Unloads parts word p k → (step_at word k).end ≤ last_end_of parts word p
  pub reached : (k : ℕ) → Unloads parts word p k
      → (last : ℕ) × Unloads parts word p last × ((step_at word last).end ≡ last_end_of parts word p)
  pub none : ((k : ℕ) → Unloads parts word p k → ⊥) → last_end_of parts word p ≡ 0

-- so is that of each place, whatever the word
abbrev pub LastEndsAreReached : Parts → Type 0
LastEndsAreReached parts = (word : List Timed) (p : ℕ) → IsLastEnd parts word p
