-- The greedy plan of a longer list.
use Rattle.std.proofs.Common.{◌≡◌, ℕ, ◌+◌, ◌<◌, List, [], ◌∷◌, length, get_or, take, add-one, refl}
use Rattle.std.proofs.Math.Seq.{take-suc}
use Rattle.std.proofs.lemmas.List.Sums.{fold-append}
use Rattle.plant_model.specs.declared.parts.Parts.{Parts}
use Rattle.greedy_plan.specs.Greedy.{with_next, greedy_of}

-- of one operation more
pub greedy_next : (parts : Parts) (n : ℕ) (ops : List ℕ) (i : ℕ) → i < length ops
    → greedy_of parts n (take (i + 1) ops) ≡ with_next parts n (greedy_of parts n (take i ops)) (get_or ops i 0)
unfolding greedy_of
greedy_next parts n ops i h =
    rw (add-one, take-suc ops i 0 h, fold-append (with_next parts n) [] (take i ops) (get_or ops i 0 ∷ []))

-- of none
pub greedy_none : (parts : Parts) (n : ℕ) → greedy_of parts n [] ≡ []
unfolding greedy_of
greedy_none parts n = refl
