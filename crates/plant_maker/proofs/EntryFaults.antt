-- Lists of entries of which none has a fault.
use Rattle.std.proofs.Common.{◌≡◌, ℕ, zero, suc, ◌+◌, ◌<◌, Bool, true, List, [], ◌∷◌, ◌++◌, map, refl, arith}
use Rattle.std.specs.List.{range_with_len, flat_map}
use Rattle.item_lists.specs.Faults.{unless, each_from}
use Rattle.plant_model.specs.declared.parts.OperationPart.{OperationPart}
use Rattle.plant_maker.specs.Choices.{Choices}
use Rattle.plant_maker.specs.Made.{unload, transfer, charge, entries, unloads, transfers}

pub none_of : {Y : Type 0} (test : Bool) (fault : Y) → test ≡ true → unless test fault ≡ []
none_of test fault holds = rw holds

pub both_none : {Y : Type 0} (front back : List Y) → front ≡ [] → back ≡ [] → front ++ back ≡ []
both_none front back no_front no_back = rw (no_front, no_back)

-- no item has a fault, whatever its index
abbrev pub Clean : {X Y : Type 0} → (ℕ → X → List Y) → List X → Type 0
Clean faults [] = Unit {0}
Clean faults (x ∷ xs) = ((index : ℕ) → faults index x ≡ []) × Clean faults xs

pub clean_none : {X Y : Type 0} (faults : ℕ → X → List Y) (index : ℕ) (xs : List X) → Clean faults xs → each_from faults index xs ≡ []
clean_none faults index [] clean = refl
clean_none faults index (x ∷ xs) clean =
    both_none (faults index x) (each_from faults (index + 1) xs) (clean.0 index) (clean_none faults (index + 1) xs clean.1)

pub clean_append : {X Y : Type 0} (faults : ℕ → X → List Y) (xs ys : List X) → Clean faults xs → Clean faults ys → Clean faults (xs ++ ys)
clean_append faults [] ys front back = back
clean_append faults (x ∷ xs) ys front back = (front.0, clean_append faults xs ys front.1 back)

pub clean_range : {X Y : Type 0} (faults : ℕ → X → List Y) (made : ℕ → X) (from count : ℕ)
    → ((k index : ℕ) → k < from + count → faults index (made k) ≡ []) → Clean faults (map made (range_with_len from count))
clean_range faults made from zero none = tt
clean_range faults made from (suc count) none =
    (λ index. none from index (omega arith), clean_range faults made (from + 1) count (λ k index within. none k index (omega arith)))

pub clean_entries : {X Y : Type 0} (faults : ℕ → X → List Y) (made : ℕ → X) (count : ℕ)
    → ((k index : ℕ) → k < count → faults index (made k) ≡ []) → Clean faults (entries made count)
clean_entries faults made count none = clean_range faults made 0 count (λ k index within. none k index (omega arith))

pub clean_flat : {X Y : Type 0} (faults : ℕ → X → List Y) (made : ℕ → List X) (from count : ℕ)
    → ((k : ℕ) → k < from + count → Clean faults (made k)) → Clean faults (flat_map made (range_with_len from count))
clean_flat faults made from zero clean = tt
clean_flat faults made from (suc count) clean =
    clean_append faults (made from) (flat_map made (range_with_len (from + 1) count)) (clean from (omega arith))
    (clean_flat faults made (from + 1) count (λ k within. clean k (omega arith)))

-- where no entry has a fault there is none
pub no_entry : {X Y : Type 0} (faults : ℕ → X → List Y) (made : ℕ → X) (count : ℕ) → ((k index : ℕ) → k < count → faults index (made k) ≡ [])
    → each_from faults 1 (entries made count) ≡ []
no_entry faults made count none = clean_none faults 1 (entries made count) (clean_entries faults made count none)

-- no operation has a fault where none has that is made in one of the three ways
pub no_operation : {Y : Type 0} (faults : ℕ → OperationPart → List Y) (choices : Choices)
    → ((v s index : ℕ) → v < choices.vessels → s < choices.storage → faults index (unload choices v s) ≡ [])
    → ((s c index : ℕ) → s < choices.storage → c < 2 → faults index (transfer choices s c) ≡ [])
    → ((c index : ℕ) → c < 2 → faults index (charge choices c) ≡ [])
    → each_from faults 1 (unloads choices ++ transfers choices ++ entries (charge choices) 2) ≡ []
no_operation faults choices of_unload of_transfer of_charge =
    clean_none faults 1 (unloads choices ++ transfers choices ++ entries (charge choices) 2)
    (clean_append faults (unloads choices ++ transfers choices) (entries (charge choices) 2)
    (clean_append faults (unloads choices) (transfers choices)
    (clean_flat faults (λ v. entries (unload choices v) choices.storage) 0 choices.vessels
    (λ v within. clean_entries faults (unload choices v) choices.storage (λ s index small. of_unload v s index (omega arith) small)))
    (clean_flat faults (λ s. entries (transfer choices s) 2) 0 choices.storage
    (λ s within. clean_entries faults (transfer choices s) 2 (λ c index small. of_transfer s c index (omega arith) small))))
    (clean_entries faults (charge choices) 2 of_charge))
