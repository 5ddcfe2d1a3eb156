-- The operation that a name leads to.
use Rattle.std.proofs.Common.{◌≡◌, ℕ, ◌<◌, ◌≤◌, List, [], arith}
use Rattle.std.proofs.lemmas.List.{length-map}
use Rattle.std.proofs.lemmas.List.Sums.{passes_at_first, fails_before_first}
use Rattle.std.proofs.lemmas.Slice.Eq.{bytes_eq-Decides}
use Rattle.std.specs.Prelude.{◌≢◌}
use Rattle.std.specs.Str.{bytes_eq}
use Rattle.plant_model.specs.declared.parts.OperationPart.{OperationPart}
use Rattle.plant_model.specs.declared.parts.Parts.{Parts}
use Rattle.plant_model.specs.Parts.{position_of, op_names_of, op_name_of, op_count_of}

-- the first operation with the name has it
pub known_op : (parts : Parts) (name : List ℕ) (v : ℕ) → v ≡ position_of name (op_names_of parts) → v < op_count_of parts → op_name_of parts v ≡ name
unfolding op_name_of op_count_of
known_op parts name v first within =
    let count = length-map parts.operations (λ (operation : OperationPart). operation.name) in
    let passes = passes_at_first (λ other. bytes_eq other name) (op_names_of parts) [] (omega arith) in
    rw first ((bytes_eq-Decides _ name).0 passes)

-- where the first would stand past the end, no operation has it
pub unknown_op : (parts : Parts) (name : List ℕ) (found : ℕ) → found ≡ position_of name (op_names_of parts) → op_count_of parts ≤ found → (v : ℕ)
    → v < op_count_of parts → op_name_of parts v ≢ name
unfolding op_name_of
unknown_op parts name found first past v within same =
    let fails = fails_before_first (λ other. bytes_eq other name) (op_names_of parts) v [] (omega arith) in
    let passes = (bytes_eq-Decides (op_name_of parts v) name).1 same in
    cc
