-- What places have got and given, kept as a table with one tally a place.
use Rattle.std.specs.Prelude.{◌≡◌, ℕ, ◌+◌, ◌-◌, ◌^◌, ◌<◌, max, ◌&&◌, ◌==◌, if◌then◌else◌, List, length, slice_index_or}
use Rattle.plant_model.specs.declared.parts.Parts.{Parts}
use Rattle.plant_model.specs.declared.details.Op.{Op}
use Rattle.plant_model.specs.Parts.{place_count_of}
use Rattle.plant_model.specs.Relations.{is_charge, is_unload}
use Rattle.replay_core.specs.declared.timed.Timed.{Timed}
use Rattle.replay_core.specs.declared.tally.Tally.{Tally}
use Rattle.replay_core.specs.Counts.{charges_of, minutes_of, charged_of, last_end_of}

-- the tally of place p
unfoldable pub tally_of : Parts → List Timed → ℕ → Tally
tally_of parts steps p =
    record {
      charges = charges_of parts steps p;
      minutes = minutes_of parts steps p;
      charged = charged_of parts steps p;
      last_end = last_end_of parts steps p;
    }

-- the tally of place p once the operation has run too
unfoldable pub tally_after : Op → Timed → ℕ → Tally → Tally
tally_after op t p tally =
    let gets = is_charge op.kind && op.to == p in
    let gives = is_charge op.kind && op.from == p in
    let unloads = is_unload op.kind && op.from == p in
    record {
      charges = tally.charges + (if gets then 1 else 0);
      minutes = tally.minutes + (if gets then t.end - t.start else 0);
      charged = tally.charged + (if gives then t.volume else 0);
      last_end = if unloads then max tally.last_end t.end else tally.last_end;
    }

-- one charge more fits the tally
pub record HasRoom (tally : Tally) : Type 0 where
  pub charges : tally.charges < 2 ^ 31
  pub minutes : tally.minutes < 2 ^ 63
  pub charged : tally.charged < 2 ^ 63

-- one tally a place
pub record AreTallies (parts : Parts) (steps : List Timed) (tallies : List Tally) : Type 0 where
  pub count : length tallies ≡ place_count_of parts
  pub each : (p : ℕ) (d : Tally) → p < place_count_of parts → slice_index_or tallies p d ≡ tally_of parts steps p

-- the operation can be counted
pub record CanCount (tallies : List Tally) (op : Op) (t : Timed) : Type 0 where
  pub source : op.from < length tallies
  pub target : op.to < length tallies
  pub lasts : t.start < t.end
  pub room : (p : ℕ) (d : Tally) → p < length tallies → HasRoom (slice_index_or tallies p d)
