-- Lists of JSON values that are read item by item.
use Rattle.std.proofs.Common.{◌≡◌, ℕ, suc, ◌+◌, ◌<◌, ◌≤◌, get_or, drop, add-one, drop-cons, List, [], ◌∷◌, ◌++◌, length, Option, Some, None, refl, ap, append_assoc}
use Rattle.std.proofs.lemmas.List.{append-nil, drop_all}
use Rattle.std.specs.Prelude.{option_map, ◌&&◌, String, string_bytes, map}
use Rattle.std.specs.declared.alloc.Global.{Global}
use Rattle.std.specs.List.{list_any, list_all}
use Rattle.std.specs.Str.{bytes_eq}
use Rattle.plant_text.specs.Walk.{keyed_by}
use Rattle.serde_json.specs.Data.{Data}
use Rattle.serde_json.specs.View.{view, items_view, members_view}
use Rattle.serde_json.specs.declared.value.Value.{Value}
use Rattle.plant_text.specs.Kinds.{each_in, pair_in}

-- a list of other than two values is no pair
pub pair_in-other : (values : List Value) → (length values ≡ 2 → ⊥) → pair_in (items_view values) ≡ None
pair_in-other [] other = refl
pair_in-other (a ∷ []) other = refl
pair_in-other (a ∷ b ∷ []) other = absurd (other refl)
pair_in-other (a ∷ b ∷ c ∷ values) other = refl

-- what was found before, in front of what the rest gives
abbrev pub after : {X : Type 0} → List X → Option (List X) → Option (List X)
after front found = option_map (λ xs. front ++ xs) found

pub after-start : {X : Type 0} (found : Option (List X)) → after [] found ≡ found
after-start None = refl
after-start (Some xs) = refl

after-one : {X : Type 0} (front : List X) (x : X) (found : Option (List X)) → after front (option_map (λ xs. x ∷ xs) found) ≡ after (front ++ x ∷ []) found
after-one front x None = refl
after-one front x (Some xs) = ap Some (simp append_assoc)

-- one item more is of the kind
pub each_in-more : {X : Type 0} (kind : Data → Option X) (values : List Value) (i : ℕ) (value : Value) (front : List X) (x : X) → i < length values
    → value ≡ get_or values i value → kind (view value) ≡ Some x
    → after front (each_in kind (items_view (drop i values))) ≡ after (front ++ x ∷ []) (each_in kind (items_view (drop (i + 1) values)))
each_in-more kind values i value front x within is found =
    rw (add-one, drop-cons values i value within, ← is, found) (after-one front x (each_in kind (items_view (drop (suc i) values))))

-- one item is not of the kind
pub each_in-none : {X : Type 0} (kind : Data → Option X) (values : List Value) (i : ℕ) (value : Value) (front : List X) → i < length values
    → value ≡ get_or values i value → kind (view value) ≡ None
    → after front (each_in kind (items_view (drop i values))) ≡ None
each_in-none kind values i value front within is missing =
    rw (drop-cons values i value within, ← is, missing) refl

-- no item is left
pub each_in-done : {X : Type 0} (kind : Data → Option X) (values : List Value) (i : ℕ) (front : List X) → length values ≤ i
    → after front (each_in kind (items_view (drop i values))) ≡ Some front
each_in-done kind values i front past = rw (drop_all i values past) (ap Some (append-nil front))

-- the members of a value have these keys where the names of its map have
pub keyed_by-keys : (keys : List (List ℕ)) (members : List (String Global × Value))
    → list_all (λ name. list_any (bytes_eq (string_bytes name)) keys) (map (λ m. m.0) members) ≡ keyed_by keys (members_view members)
keyed_by-keys keys [] = refl
keyed_by-keys keys (m ∷ members) = ap (λ b. list_any (bytes_eq (string_bytes m.0)) keys && b) (keyed_by-keys keys members)
