-- The kinds of value that a plant text has under its keys: what a JSON value is of a kind, if it is of it.
use Rattle.std.specs.Prelude.{ℤ, List, [], ◌∷◌, Option, Some, None, option_map, option_and_then}
use Rattle.serde_json.specs.Data.{Data, Items, no_items, item}
use Rattle.serde_json.specs.Find.{as_number, as_i64, as_array}
use Rattle.plant_model.specs.declared.parts.Pair.{Pair}

-- a number without fraction and exponent that fits 64 bits with a sign
abbrev pub whole_number : Data → Option ℤ
whole_number value = option_and_then as_i64 (as_number value)

-- items that are all of one kind
abbrev pub each_in : {X : Type 0} → (Data → Option X) → Items → Option (List X)
each_in kind no_items = Some []
each_in kind (item value others) = option_and_then (λ x. option_map (λ xs. x ∷ xs) (each_in kind others)) (kind value)

-- a list of whole numbers
abbrev pub whole_numbers : Data → Option (List ℤ)
whole_numbers value = option_and_then (each_in whole_number) (as_array value)

-- exactly two whole numbers, the lower end and the upper end
abbrev pub pair_in : Items → Option Pair
pair_in no_items = None
pair_in (item lo no_items) = None
pair_in (item lo (item hi no_items)) =
    option_and_then (λ low. option_map (λ high. record { lo = low; hi = high }) (whole_number hi)) (whole_number lo)
pair_in (item lo (item hi (item more others))) = None

-- a list of exactly two whole numbers
abbrev pub pair : Data → Option Pair
pair value = option_and_then pair_in (as_array value)

-- a list of pairs
abbrev pub pairs : Data → Option (List Pair)
pairs value = option_and_then (each_in pair) (as_array value)
