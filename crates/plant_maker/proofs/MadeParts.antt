-- The parts that are made are the plant that is made of them.
use Rattle.std.proofs.Common.{◌≡◌, ℕ, zero, suc, ◌+◌, [], ◌∷◌, map, Some, refl, ap, ◌∙◌}
use Rattle.std.specs.List.{range_with_len}
use Rattle.item_lists.specs.Faults.{first_of}
use Rattle.plant_model.specs.declared.place.PlantFault.{PlantFault}
use Rattle.plant_model.specs.declared.place.PlantNewFault.{PlantNewFault}
use Rattle.plant_model.specs.declared.place.PlantNewFault.TheVariants.{Fault, Memory}
use Rattle.plant_model.specs.declared.parts.Parts.{Parts}
use Rattle.plant_model.specs.Faults.{faults_of, IsRefusal}
use Rattle.plant_model.specs.Parts.{seen_parts, without_demand}
use Rattle.plant_maker.specs.Choices.{Choices, choices_of}
use Rattle.plant_maker.specs.Made.{made_storage, parts_of, made_parts}
use Rattle.plant_maker.proofs.Sound.{made_plants_are_sound}

-- no storage tank has a demand
storage_without_demand : (choices : Choices) (from count : ℕ)
    → map without_demand (map (made_storage choices) (range_with_len from count)) ≡ map (made_storage choices) (range_with_len from count)
unfolding made_storage
storage_without_demand choices from zero = refl
storage_without_demand choices from (suc count) =
    ap (λ tanks. made_storage choices from ∷ tanks) (storage_without_demand choices (from + 1) count)

-- what is made of the parts is seen as they are
pub seen_as_made : (number picked : ℕ) (parts plant : Parts) → picked ≡ number → parts ≡ made_parts picked → plant ≡ seen_parts parts
    → plant ≡ made_parts number
unfolding seen_parts parts_of
seen_as_made number picked parts plant same made seen =
    seen ∙ ap seen_parts (made ∙ ap made_parts same) ∙ rw (storage_without_demand (choices_of number) 0 (choices_of number).storage)

-- the parts are not refused for a fault
pub no_fault_told : (number : ℕ) (parts : Parts) (refusal : PlantNewFault) (fault : PlantFault) → parts ≡ made_parts number
    → refusal ≡ Fault fault → IsRefusal parts refusal → ⊥
no_fault_told number parts (Fault told) fault made is refused =
    let none : faults_of parts ≡ [] = rw made (made_plants_are_sound number) in
    let some : first_of {X = PlantFault} [] ≡ Some told = rw none at refused in
    cc
no_fault_told number parts Memory fault made is refused = cc
