-- Of each operation, the set of those that are independent of it.
use Rattle.std.specs.Prelude.{◌≡◌, ℕ, ◌<◌, ◌↔◌, true, List, map, length, slice_index, IsBitSet}
use Rattle.std.specs.List.{range_with_len}
use Rattle.plant_model.specs.declared.parts.Parts.{Parts}
use Rattle.plant_model.specs.Parts.{op_count_of}
use Rattle.plant_model.specs.Relations.{independent_of}
use Rattle.overlap_graph.specs.Sets.{set_of}

-- the operations that are independent of v
unfoldable pub independent_mask_of : Parts → ℕ → ℕ
independent_mask_of parts v = set_of (op_count_of parts) (independent_of parts v)

-- these masks, operation by operation
unfoldable pub independence_of : Parts → List ℕ
independence_of parts = map (independent_mask_of parts) (range_with_len 0 (op_count_of parts))

-- the set has exactly the operations that are independent of v
abbrev pub IsIndependentSet : Parts → ℕ → ℕ → Type 0
IsIndependentSet parts v set =
    (w : ℕ) → IsBitSet set w ↔ ((w < op_count_of parts) × (independent_of parts v w ≡ true))

-- operation by operation
pub record AreIndependentSets (parts : Parts) (sets : List ℕ) : Type 0 where
  pub count : length sets ≡ op_count_of parts
  pub each : (v : ℕ) → v < op_count_of parts → IsIndependentSet parts v (slice_index sets v)
