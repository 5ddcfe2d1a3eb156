-- The greatest of the upper volumes.
use Rattle.std.proofs.Common.{◌≡◌, ℕ, suc, ◌<◌, ◌≤◌, List, [], ◌∷◌, length, get_or, arith}
use Rattle.std.specs.Prelude.{fold, max}
use Rattle.limits.specs.declared.TheConstants.{MOST_VOLUME}
use Rattle.plant_model.specs.declared.details.Op.{Op}
use Rattle.plant_model.specs.declared.parts.Parts.{Parts}
use Rattle.plant_model.specs.Parts.{no_op, ops_of, op_of, op_count_of, greatest_of}
use Rattle.plant_model.specs.Sound.{SoundOp}

-- no upper volume above the limit, none so far either
stays_below : (limit most : ℕ) (ops : List Op) → most ≤ limit → ((v : ℕ) → v < length ops → (get_or ops v no_op).volume.1 ≤ limit)
    → fold (λ most (op : Op). max most op.volume.1) most ops ≤ limit
stays_below limit most [] so_far each = so_far
stays_below limit most (op ∷ ops) so_far each =
    let here : op.volume.1 ≤ limit = each 0 (omega arith) in
    stays_below limit (max most op.volume.1) ops (omega arith) (λ v within. each (suc v) (omega arith))

-- in a sound plant none is above the greatest volume
pub greatest_volume-le : (parts : Parts) → length (ops_of parts) ≡ op_count_of parts
    → ((v : ℕ) → v < op_count_of parts → SoundOp parts (op_of parts v)) → greatest_of (ops_of parts) ≤ MOST_VOLUME
unfolding op_of
greatest_volume-le parts count sound = stays_below MOST_VOLUME 0 (ops_of parts) (omega arith) (λ v within. (sound v (omega arith)).volume.to_high)
