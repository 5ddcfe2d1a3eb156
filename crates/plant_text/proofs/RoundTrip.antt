-- The text of a plant is read as that plant.
use Rattle.std.proofs.Common.{◌≡◌, ◌≤◌, List, [], Option, Some, option_and_then, Ok, sym, ap, ◌∙◌, arith, append-nil}
use Rattle.json.specs.Token.{Token}
use Rattle.json.specs.Lex.{tokens}
use Rattle.json.specs.Json as json
use Rattle.json.specs.Print.{print}
use Rattle.json.specs.Tree as tree
use Rattle.json.proofs.Printed.Trees.{value-json_tokens, ArePrintable-json_tokens}
use Rattle.serde_json.specs.Data.{Data}
use Rattle.serde_json.specs.Read.{of_json, read, max_depth}
use Rattle.serde_json.specs.Written.{outline}
use Rattle.serde_json.proofs.Texts.{print-outline}
use Rattle.item_lists.specs.Faults.{first_of}
use Rattle.plant_model.specs.declared.parts.Parts.{Parts}
use Rattle.plant_model.specs.Faults.{IsSound, faults_of}
use Rattle.plant_model.specs.Parts.{seen_parts}
use Rattle.plant_text.specs.Walk.{◌>>=◌, parts_of}
use Rattle.plant_text.specs.PlantText.{json_of, sound_or, plant_of}
use Rattle.plant_text.specs.Canonical.{format_for, plant_text_of}
use Rattle.plant_text.specs.Laws.{IsReadBack}
use Rattle.plant_text.proofs.JsonLaws.{json_found}
use Rattle.plant_text.proofs.LexLaws.{ended, tokens-ended}
use Rattle.plant_text.proofs.PlainValues.{IsPlain, text_of, compact-plain, HasNumbers-outline, sorted, of_json-outline}
use Rattle.plant_text.proofs.PlainTexts.{IsUtf8-line}
use Rattle.plant_text.proofs.PlantValues.{plant_value, plant_told}
use Rattle.plant_text.proofs.WalkLaws.{FitsParts, parts_read}
use Rattle.plant_text.proofs.PlantIsPlain.{plant_plain, plant_depth}

-- what tokens are read as
abbrev read_of : List Token → Option Data
read_of ts = option_and_then of_json (option_and_then (λ p. json.if_last p.0 p.1) (json.value max_depth ts))

-- a plain value that is not too deep is read of its text, with a line feed behind it
read_line : (d : Data) → IsPlain d → tree.depth (outline d) ≤ max_depth → read (ended (text_of d)) ≡ Some (sorted d)
read_line d plain shallow =
    let ts = tree.json_tokens (outline d) in
    let written : text_of d ≡ print ts = sym (compact-plain d plain) ∙ sym (print-outline d) in
    let divided : tokens (ended (text_of d)) ≡ ts =
    ap (λ text. tokens (ended text)) written ∙ tokens-ended ts (ArePrintable-json_tokens (outline d) (HasNumbers-outline d plain)) in
    ap read_of divided
    ∙ ap (λ o. option_and_then of_json (option_and_then (λ p. json.if_last p.0 p.1) o))
    (ap (json.value max_depth) (sym (append-nil ts)) ∙ value-json_tokens (outline d) max_depth [] shallow)
    ∙ of_json-outline d plain

-- the value that the text of a plant is as JSON
json_read : (parts : Parts) → FitsParts (format_for parts.vessels) parts
    → json_of (plant_text_of parts) ≡ Ok (sorted (plant_value (format_for parts.vessels) parts))
json_read parts fits =
    let value = plant_value (format_for parts.vessels) parts in
    let plain = plant_plain (format_for parts.vessels) parts fits in
    let few = plant_depth (format_for parts.vessels) parts in
    ap json_of (sym (plant_told parts)) ∙ json_found (ended (text_of value)) (sorted value) (IsUtf8-line value plain) (read_line value plain (omega arith))

-- a plant that can be told is read of its text
pub told_read : (parts : Parts) → FitsParts (format_for parts.vessels) parts → IsSound parts → seen_parts parts ≡ parts → IsReadBack parts
unfolding plant_of
told_read parts fits sound seen =
    ap (λ found. found >>= λ whole. parts_of whole >>= λ p. sound_or (first_of (faults_of p)) p) (json_read parts fits)
    ∙ ap (λ found. found >>= λ p. sound_or (first_of (faults_of p)) p) (parts_read (format_for parts.vessels) parts fits)
    ∙ ap (λ faults. sound_or (first_of faults) parts) sound ∙ ap Ok seen
