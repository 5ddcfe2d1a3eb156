-- Cliques: sets of operations of which no two may run at one moment. They are chosen so that each such pair lies in
-- one.
use Rattle.std.specs.Prelude.{◌≡◌, ℕ, ◌-◌, ◌<◌, map, length, slice_index, true, not, ◌&&◌, if◌then◌else◌, List, [], ◌∷◌, ◌++◌, fold, All, IsBitSet}
use Rattle.std.specs.List.{list_any, range_with_len}
use Rattle.plant_model.specs.declared.parts.Parts.{Parts}
use Rattle.plant_model.specs.Parts.{op_count_of}
use Rattle.plant_model.specs.Relations.{refused_at_once_of}
use Rattle.overlap_graph.specs.Sets.{set_of, with_member, is_within}

-- the operations that may not run while v does, v among them
unfoldable pub refused_mask_of : Parts → ℕ → ℕ
refused_mask_of parts v = set_of (op_count_of parts) (refused_at_once_of parts v)

-- these sets, operation by operation
unfoldable pub refused_masks_of : Parts → List ℕ
refused_masks_of parts = map (refused_mask_of parts) (range_with_len 0 (op_count_of parts))

-- the clique, and u in it where u may not run at one moment with any of its members
abbrev pub joined_by : Parts → ℕ → ℕ → ℕ
joined_by parts clique u = if is_within clique (refused_mask_of parts u) then with_member clique u else clique

-- the clique that begins with some operations; the others join in turn
unfoldable pub clique_from : Parts → ℕ → ℕ
clique_from parts first = fold (joined_by parts) first (range_with_len 0 (op_count_of parts))

-- two operations
abbrev pub pair_of : ℕ → ℕ → ℕ
pair_of v w = with_member (with_member 0 v) w

-- a pair that may not run at one moment gets a clique of its own where none so far holds both
abbrev pub with_pair : Parts → ℕ → List ℕ → ℕ → List ℕ
with_pair parts v cliques w =
    if refused_at_once_of parts v w && not (list_any (is_within (pair_of v w)) cliques)
    then cliques ++ clique_from parts (pair_of v w) ∷ []
    else cliques

-- all pairs of v and an operation from v on
abbrev pub with_pairs : Parts → List ℕ → ℕ → List ℕ
with_pairs parts cliques v = fold (with_pair parts v) cliques (range_with_len v (op_count_of parts - v))

-- the cliques of a plant, in their order
unfoldable pub cliques_of : Parts → List ℕ
cliques_of parts = fold (with_pairs parts) [] (range_with_len 0 (op_count_of parts))

-- ---- laws

-- its members are operations of the plant, and no two of them, nor one and itself, may run at one moment
pub record IsClique (parts : Parts) (clique : ℕ) : Type 0 where
  pub known : (v : ℕ) → IsBitSet clique v → v < op_count_of parts
  pub refused : (v w : ℕ) → IsBitSet clique v → IsBitSet clique w → refused_at_once_of parts v w ≡ true

-- each of the cliques is one
abbrev pub EachIsClique : Parts → Type 0
EachIsClique parts = All (IsClique parts) (cliques_of parts)

-- the set has both
pub record HasBoth (v w clique : ℕ) : Type 0 where
  pub first : IsBitSet clique v
  pub second : IsBitSet clique w

-- whatever two operations may not run at one moment lie in one of the cliques
abbrev pub IsCover : Parts → List ℕ → Type 0
IsCover parts cliques =
    (v w : ℕ) → v < op_count_of parts → w < op_count_of parts → refused_at_once_of parts v w ≡ true
    → (i : ℕ) × (i < length cliques) × HasBoth v w (slice_index cliques i)

-- so it is of the cliques of a plant
abbrev pub EachPairIsCovered : Parts → Type 0
EachPairIsCovered parts = IsCover parts (cliques_of parts)
