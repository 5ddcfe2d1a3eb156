-- Which value bytes are as JSON.
use Rattle.std.proofs.Common.{◌≡◌, ℕ, List, Bool, true, false, Option, Some, None, Ok, Err, refl}
use Rattle.std.specs.Prelude.{if◌then◌else◌}
use Rattle.std.specs.Option.{ok_or}
use Rattle.std.specs.Str.{IsUtf8, is_utf8}
use Rattle.std.proofs.lemmas.Str.{IsUtf8-from_is_utf8, is_utf8-from_IsUtf8}
use Rattle.serde_json.specs.Data.{Data}
use Rattle.serde_json.specs.Read.{read}
use Rattle.plant_text.specs.declared.fault.PlantTextFault.TheVariants as fault
use Rattle.plant_text.specs.PlantText.{json_of}

pub json_found : (bytes : List ℕ) (value : Data) → IsUtf8 bytes → read bytes ≡ Some value → json_of bytes ≡ Ok value
json_found bytes value text is = rw (is_utf8-from_IsUtf8 bytes text, is) refl

none_by : (b : Bool) (found : Option Data) → (b ≡ true → found ≡ None) → ok_or (if b then found else None) fault.Json ≡ Err fault.Json
none_by true found none = rw (none refl) refl
none_by false found none = refl

pub json_none : (bytes : List ℕ) → (IsUtf8 bytes → read bytes ≡ None) → json_of bytes ≡ Err fault.Json
json_none bytes none = none_by (is_utf8 bytes) (read bytes) (λ text. none (IsUtf8-from_is_utf8 bytes text))
