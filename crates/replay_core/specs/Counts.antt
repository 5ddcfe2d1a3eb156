-- What operations have charged and unloaded so far: counts, minutes and volumes of units and charging tanks, and until
-- when each vessel was unloaded.
use Rattle.std.specs.Prelude.{ℕ, ◌-◌, max, Bool, ◌&&◌, ◌==◌, if◌then◌else◌, List, count_by, fold, sum_by}
use Rattle.plant_model.specs.declared.parts.Parts.{Parts}
use Rattle.plant_model.specs.Parts.{op_of}
use Rattle.plant_model.specs.Relations.{is_charge, is_unload}
use Rattle.replay_core.specs.declared.timed.Timed.{Timed}

-- the operation charges unit p
abbrev pub charges_unit : Parts → ℕ → Timed → Bool
charges_unit parts p t = is_charge (op_of parts t.op).kind && (op_of parts t.op).to == p

-- the operation charges from tank p
abbrev pub charges_from : Parts → ℕ → Timed → Bool
charges_from parts p t = is_charge (op_of parts t.op).kind && (op_of parts t.op).from == p

-- the operation unloads vessel p
abbrev pub unloads_from : Parts → ℕ → Timed → Bool
unloads_from parts p t = is_unload (op_of parts t.op).kind && (op_of parts t.op).from == p

-- how many charges unit p has got
unfoldable pub charges_of : Parts → List Timed → ℕ → ℕ
charges_of parts steps p = count_by (charges_unit parts p) steps

-- how many minutes unit p was charged in all
unfoldable pub minutes_of : Parts → List Timed → ℕ → ℕ
minutes_of parts steps p = sum_by (λ (t : Timed). if charges_unit parts p t then t.end - t.start else 0) steps

-- the volume charged from tank p
unfoldable pub charged_of : Parts → List Timed → ℕ → ℕ
charged_of parts steps p = sum_by (λ (t : Timed). if charges_from parts p t then t.volume else 0) steps

-- the latest minute of the chosen operations, and 0 where there is none
abbrev pub latest_of : (Timed → Bool) → (Timed → ℕ) → List Timed → ℕ
latest_of chosen minute steps = fold (λ last (t : Timed). if chosen t then max last (minute t) else last) 0 steps

-- the greatest end of the unloadings of vessel p, and 0 where there is none
unfoldable pub last_end_of : Parts → List Timed → ℕ → ℕ
last_end_of parts steps p = latest_of (unloads_from parts p) (λ (t : Timed). t.end) steps
