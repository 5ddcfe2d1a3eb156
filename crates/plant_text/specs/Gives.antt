-- What the readers of this crate promise: they answer what the definition says.
use Rattle.std.specs.Prelude.{◌≡◌, Result, Ok, Err}
use Rattle.plant_text.specs.declared.fault.PlantTextFault.{PlantTextFault}
use Rattle.plant_text.specs.declared.fault.PlantTextFault.TheVariants as fault

-- want of memory says nothing, each other fault is what the definition says
abbrev pub Fails : {X : Type 0} → PlantTextFault → Result X PlantTextFault → Type 0
Fails fault.Json said = said ≡ Err fault.Json
Fails (fault.Shape place) said = said ≡ Err (fault.Shape place)
Fails (fault.Plant found) said = said ≡ Err (fault.Plant found)
Fails fault.Memory said = Unit {0}

-- what a reader answered, seen by `seen`, is what the definition says, unless memory ran out
abbrev pub Gives : {X Y : Type 0} → (X → Y) → Result X PlantTextFault → Result Y PlantTextFault → Type 0
Gives seen (Ok x) said = said ≡ Ok (seen x)
Gives seen (Err f) said = Fails f said
