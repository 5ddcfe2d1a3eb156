-- The laws of plant texts.
use Rattle.std.proofs.Common.{◌≡◌, Option, Some, None, Result, Ok, Err, refl, sym, ap, ◌∙◌}
use Rattle.plant_model.specs.declared.parts.Parts.{Parts}
use Rattle.item_lists.specs.Faults.{first_of}
use Rattle.item_lists.proofs.FaultLaws.{nil_of_none}
use Rattle.plant_model.specs.declared.place.PlantFault.{PlantFault}
use Rattle.plant_model.specs.Faults.{IsSound, faults_of}
use Rattle.plant_model.specs.Parts.{seen_parts}
use Rattle.plant_text.specs.declared.fault.PlantTextFault.{PlantTextFault}
use Rattle.plant_model.proofs.SeenParts.{faults_seen, seen_twice}
use Rattle.plant_text.specs.Walk.{◌>>=◌, parts_of}
use Rattle.plant_text.specs.PlantText.{json_of, sound_or, plant_of}
use Rattle.plant_text.specs.Laws.{PlantsAreReadBack, AcceptedPlantsAreReadBack, TextsTellPlants}
use Rattle.plant_text.proofs.RoundTrip.{told_read}
use Rattle.plant_text.proofs.FitsLaws.{fits_parts}

pub read_back : PlantsAreReadBack
read_back parts sound seen = told_read parts (fits_parts parts sound seen) sound seen

-- the value of an answer, or these parts
abbrev found_or : Parts → Result Parts PlantTextFault → Parts
found_or parts (Ok found) = found
found_or parts (Err fault) = parts

-- a step that leads to a plant had a value
went_on : {A : Type 0} (found : Result A PlantTextFault) (next : A → Result Parts PlantTextFault) (parts : Parts) → (found >>= next) ≡ Ok parts
    → (a : A) × (next a ≡ Ok parts)
went_on (Ok a) next parts is = (a, is)
went_on (Err fault) next parts is = absurd (cc)

-- the parts of a plant have no fault
was_sound : (found : Option PlantFault) (given parts : Parts) → sound_or found given ≡ Ok parts → (found ≡ None) × (seen_parts given ≡ parts)
was_sound None given parts is = (refl, ap (found_or given) is)
was_sound (Some fault) given parts is = absurd (cc)

pub accepted : AcceptedPlantsAreReadBack
unfolding plant_of
accepted text parts is =
    let whole = went_on (json_of text) _ parts is in
    let given = went_on (parts_of whole.0) _ parts whole.1 in
    let built = was_sound (first_of (faults_of given.0)) given.0 parts given.1 in
    let sound : IsSound parts = ap faults_of (sym built.1) ∙ faults_seen given.0 ∙ nil_of_none (faults_of given.0) built.0 in
    let seen : seen_parts parts ≡ parts = ap seen_parts (sym built.1) ∙ seen_twice given.0 ∙ built.1 in
    read_back parts sound seen

pub one_plant : TextsTellPlants
one_plant parts others sound sound_others seen seen_others same =
    ap (found_or parts) (sym (read_back parts sound seen) ∙ ap plant_of same ∙ read_back others sound_others seen_others)
