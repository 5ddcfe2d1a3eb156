-- Which plant a text is: its JSON value, the walk over it, and the faults of the parts that the walk finds.
use Rattle.std.specs.Prelude.{ℕ, List, Option, Some, None, Result, Ok, Err, if◌then◌else◌}
use Rattle.std.specs.Option.{ok_or}
use Rattle.std.specs.Str.{is_utf8}
use Rattle.serde_json.specs.Data.{Data}
use Rattle.serde_json.specs.Read.{read}
use Rattle.item_lists.specs.Faults.{first_of}
use Rattle.plant_model.specs.declared.parts.Parts.{Parts}
use Rattle.plant_model.specs.declared.place.PlantFault.{PlantFault}
use Rattle.plant_model.specs.Faults.{faults_of}
use Rattle.plant_model.specs.Parts.{seen_parts}
use Rattle.plant_text.specs.declared.fault.PlantTextFault.{PlantTextFault}
use Rattle.plant_text.specs.declared.fault.PlantTextFault.TheVariants as fault
use Rattle.plant_text.specs.Walk.{◌>>=◌, parts_of}

-- the value that the bytes are as JSON; bytes that are no UTF-8 are none
abbrev pub json_of : List ℕ → Result Data PlantTextFault
json_of bytes = ok_or (if is_utf8 bytes then read bytes else None) fault.Json

-- parts without faults are a plant, others have a first fault
abbrev pub sound_or : Option PlantFault → Parts → Result Parts PlantTextFault
sound_or None parts = Ok (seen_parts parts)
sound_or (Some found) parts = Err (fault.Plant found)

-- the plant of a text, or why it is none
unfoldable pub plant_of : List ℕ → Result Parts PlantTextFault
plant_of bytes = do
  whole ← json_of bytes
  parts ← parts_of whole
  sound_or (first_of (faults_of parts)) parts
