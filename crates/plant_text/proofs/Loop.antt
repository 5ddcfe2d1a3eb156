-- Reading the entries of a section one after the other.
use Rattle.std.proofs.Common.{◌≡◌, ℕ, suc, ◌+◌, ◌<◌, ◌≤◌, List, [], ◌∷◌, ◌++◌, length, get_or, drop, Result, Ok, Err, refl, sym, ap, ◌∙◌, append_assoc, arith, drop-cons}
use Rattle.std.proofs.lemmas.List.{append-nil, drop_all}
use Rattle.serde_json.specs.Data.{Data}
use Rattle.serde_json.specs.View.{view, items_view}
use Rattle.serde_json.specs.declared.value.Value.{Value}
use Rattle.plant_text.specs.declared.fault.PlantTextFault.{PlantTextFault}
use Rattle.plant_text.specs.declared.fault.PlantTextFault.TheVariants as fault
use Rattle.plant_text.specs.Walk.{◌>>=◌, entries_from, next_index}
use Rattle.plant_text.specs.Gives.{Fails}

-- what was read before, in front of what is still read
abbrev pub with_front : {X : Type 0} → List X → Result (List X) PlantTextFault → Result (List X) PlantTextFault
with_front front read = read >>= λ rest. Ok (front ++ rest)

regroup : {X : Type 0} (front : List X) (x : X) (read : Result (List X) PlantTextFault)
    → with_front front (read >>= λ rest. Ok (x ∷ rest)) ≡ with_front (front ++ x ∷ []) read
regroup front x (Ok rest) = ap Ok (simp append_assoc)
regroup front x (Err f) = refl

pub starts : {X : Type 0} (read : Result (List X) PlantTextFault) → with_front [] read ≡ read
starts (Ok rest) = refl
starts (Err f) = refl

pub goes_on : {X : Type 0} (entry_at : ℕ → Data → Result X PlantTextFault) (index : ℕ) (values : List Value) (i : ℕ) (value : Value) (front : List X)
    (x : X) → i < length values → value ≡ get_or values i value → entry_at index (view value) ≡ Ok x
    → with_front front (entries_from entry_at index (items_view (drop i values)))
    ≡ with_front (front ++ x ∷ []) (entries_from entry_at (next_index index) (items_view (drop (i + 1) values)))
unfolding entries_from
goes_on entry_at index values i value front x within is read =
    let next : i + 1 ≡ suc i = omega arith in
    rw (next, drop-cons values i value within, ← is, read) (regroup front x (entries_from entry_at (next_index index) (items_view (drop (suc i) values))))

failed : {X : Type 0} (f : PlantTextFault) (entry_at : ℕ → Data → Result X PlantTextFault) (index : ℕ) (values : List Value) (i : ℕ) (value : Value)
    (front : List X) → i < length values → value ≡ get_or values i value → entry_at index (view value) ≡ Err f
    → with_front front (entries_from entry_at index (items_view (drop i values))) ≡ Err f
unfolding entries_from
failed f entry_at index values i value front within is read =
    rw (drop-cons values i value within, ← is, read) refl

pub ends : {X : Type 0} (f : PlantTextFault) (entry_at : ℕ → Data → Result X PlantTextFault) (index : ℕ) (values : List Value) (i : ℕ) (value : Value)
    (front : List X) (whole : Result (List X) PlantTextFault) → i < length values → value ≡ get_or values i value → Fails f (entry_at index (view value))
    → with_front front (entries_from entry_at index (items_view (drop i values))) ≡ whole → Fails f whole
ends fault.Json entry_at index values i value front whole within is read so_far =
    sym so_far ∙ failed fault.Json entry_at index values i value front within is read
ends (fault.Shape place) entry_at index values i value front whole within is read so_far =
    sym so_far ∙ failed (fault.Shape place) entry_at index values i value front within is read
ends (fault.Plant found) entry_at index values i value front whole within is read so_far =
    sym so_far ∙ failed (fault.Plant found) entry_at index values i value front within is read
ends fault.Memory entry_at index values i value front whole within is read so_far = tt

pub is_done : {X : Type 0} (entry_at : ℕ → Data → Result X PlantTextFault) (index : ℕ) (values : List Value) (i : ℕ) (front : List X)
    (whole : Result (List X) PlantTextFault) → length values ≤ i
    → with_front front (entries_from entry_at index (items_view (drop i values))) ≡ whole → whole ≡ Ok front
unfolding entries_from
is_done entry_at index values i front whole past so_far = sym so_far ∙ rw (drop_all i values past) (ap Ok (append-nil front))
