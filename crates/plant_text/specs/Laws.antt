-- What the texts of plants are good for: they are read back, and so each tells one plant.
use Rattle.std.specs.Prelude.{◌≡◌, ℕ, List, Ok}
use Rattle.plant_model.specs.declared.parts.Parts.{Parts}
use Rattle.plant_model.specs.Faults.{IsSound}
use Rattle.plant_model.specs.Parts.{seen_parts}
use Rattle.plant_text.specs.PlantText.{plant_of}
use Rattle.plant_text.specs.Canonical.{plant_text_of}

-- the text of a plant is read as that plant
abbrev pub IsReadBack : Parts → Type 0
IsReadBack parts = plant_of (plant_text_of parts) ≡ Ok parts

-- of whatever parts a plant is seen as: nothing is wrong in them, and no storage tank has a demand
abbrev pub PlantsAreReadBack : Type 0
PlantsAreReadBack = (parts : Parts) → IsSound parts → seen_parts parts ≡ parts → IsReadBack parts

-- plants with one text are one plant
abbrev pub TextsTellPlants : Type 0
TextsTellPlants =
    (parts others : Parts) → IsSound parts → IsSound others → seen_parts parts ≡ parts → seen_parts others ≡ others
    → plant_text_of parts ≡ plant_text_of others → parts ≡ others

-- the one text of whatever plant a text is read as is read back too
abbrev pub AcceptedPlantsAreReadBack : Type 0
AcceptedPlantsAreReadBack = (text : List ℕ) (parts : Parts) → plant_of text ≡ Ok parts → IsReadBack parts
