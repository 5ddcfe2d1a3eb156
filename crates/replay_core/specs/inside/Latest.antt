-- What a replay knows of the operations before one without going over them: when each started and ended last.
use Rattle.std.specs.Prelude.{◌≡◌, ◌↔◌, ℕ, ◌<◌, ◌≤◌, Bool, IsTrue, ◌==◌, List, length, slice_index}
use Rattle.plant_model.specs.declared.parts.Parts.{Parts}
use Rattle.plant_model.specs.Parts.{op_count_of}
use Rattle.plant_model.specs.Relations.{refused_at_once_of, ordered_of}
use Rattle.replay_core.specs.declared.timed.Timed.{Timed}
use Rattle.replay_core.specs.declared.latest.Relation.{Relation}
use Rattle.replay_core.specs.declared.latest.Relation.TheVariants.{AtOnce, Ordered, LaterVessel}
use Rattle.replay_core.specs.Counts.{latest_of}
use Rattle.replay_core.specs.Rules.{unloads_later_vessel}

-- when it starts
abbrev pub start_of : Timed → ℕ
start_of t = t.start

-- when it ends
abbrev pub end_of : Timed → ℕ
end_of t = t.end

-- the table has that minute of the latest run of each operation, and 0 of one that has not run
pub record AreLatest (minute : Timed → ℕ) (parts : Parts) (steps : List Timed) (table : List ℕ) : Type 0 where
  pub count : length table ≡ op_count_of parts
  pub each : (v : ℕ) → v < op_count_of parts → slice_index table v ≡ latest_of (λ (s : Timed). s.op == v) minute steps

-- the two may not run at one moment, or may not change places, or unload one berth's vessels, the first the later one
abbrev pub relates : Parts → Relation → ℕ → ℕ → Bool
relates parts AtOnce v w = refused_at_once_of parts v w
relates parts Ordered v w = ordered_of parts v w
relates parts LaterVessel v w = unloads_later_vessel parts v w

-- no operation that is related to this one has a later minute in the table
abbrev pub NoneIsLater : Parts → Relation → ℕ → List ℕ → ℕ → Type 0
NoneIsLater parts relation w table limit =
    (v : ℕ) → v < op_count_of parts → IsTrue (relates parts relation v w) → slice_index table v ≤ limit
