-- Texts of objects, part by part.
use Rattle.std.proofs.Common.{◌≡◌, ◌∙◌, ap, ap₂, sym, ℕ, List, [], ◌∷◌, ◌++◌, map, append_assoc, append-nil}
use Rattle.std.proofs.lemmas.List.Concat.{flat_map-append}
use Rattle.std.specs.Prelude.{decimal}
use Rattle.std.specs.Fmt.{signed_decimal}
use Rattle.plant_model.specs.declared.parts.OperationPart.{OperationPart}
use Rattle.plant_model.specs.declared.parts.Parts.{Parts}
use Rattle.plant_model.specs.declared.place.Key.TheVariants.{Name, From, To, Format, Horizon}
use Rattle.plant_model.specs.declared.place.Section.TheVariants.{Properties, Crudes, Operations}
use Rattle.plant_text.specs.Canonical.{behind_commas, with_commas, quoted, under, route_members, range_members, operation_text, crude_text, format_number, front_members, place_members, section_text, format_for, plant_text_of}

with_commas-append : (first : List ℕ) (texts others : List (List ℕ))
    → with_commas ((first ∷ texts) ++ others) ≡ with_commas (first ∷ texts) ++ behind_commas others
with_commas-append first texts others =
    ap (λ l. first ++ l) (flat_map-append (λ (text : List ℕ). 44 ∷ text) texts others) ∙ sym (append_assoc first (behind_commas texts) (behind_commas others))

pub operation_in_parts : (operation : OperationPart)
    → operation_text operation ≡ 123 ∷ with_commas (route_members operation) ++ behind_commas (range_members operation) ++ 125 ∷ []
unfolding operation_text route_members
operation_in_parts operation =
    ap (λ l. 123 ∷ l ++ 125 ∷ []) (with_commas-append (under Name (quoted operation.name))
    (under From (quoted operation.from) ∷ under To (quoted operation.to) ∷ []) (range_members operation))

-- one list of members behind the others, and the line feed behind the brace
ends_with : (first : List ℕ) (texts others : List (List ℕ)) (last : List ℕ)
    → 123 ∷ with_commas (((first ∷ texts) ++ others) ++ last ∷ []) ++ 125 ∷ [] ++ 10 ∷ []
    ≡ 123 ∷ with_commas (first ∷ texts) ++ behind_commas others ++ 44 ∷ last ++ 125 ∷ 10 ∷ []
ends_with first texts others last =
    let members = with_commas-append first (texts ++ others) (last ∷ [])
    ∙ ap₂ (λ (a b : List ℕ). a ++ b) (with_commas-append first texts others) (append-nil (44 ∷ last)) in
    ap (λ l. 123 ∷ l ++ 125 ∷ [] ++ 10 ∷ []) members
    ∙ append_assoc (123 ∷ ((with_commas (first ∷ texts) ++ behind_commas others) ++ 44 ∷ last)) (125 ∷ []) (10 ∷ [])

-- the text of a plant, its vessels told as in the first format that tells all of them
pub plant_in_parts : (parts : Parts)
    → plant_text_of parts
    ≡ 123 ∷ with_commas (front_members (format_for parts.vessels) parts) ++ behind_commas (place_members (format_for parts.vessels) parts)
    ++ 44 ∷ section_text Operations (map operation_text parts.operations) ++ 125 ∷ 10 ∷ []
unfolding plant_text_of front_members
plant_in_parts parts =
    ends_with (under Format (decimal (format_number (format_for parts.vessels))))
    (under Horizon (signed_decimal parts.horizon) ∷ section_text Properties (map quoted parts.properties)
    ∷ section_text Crudes (map crude_text parts.crudes) ∷ [])
    (place_members (format_for parts.vessels) parts) (section_text Operations (map operation_text parts.operations))
