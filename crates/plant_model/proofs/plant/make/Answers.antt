use Rattle.std.proofs.Common.{◌≡◌, ◌∙◌, Ok, sym, ap, subst}
use Rattle.std.specs.Result.{result_err}
use Rattle.std.proofs.Common.{Result}
use Rattle.item_lists.specs.Faults.{first_of}
use Rattle.item_lists.proofs.FaultLaws.{nil_of_none}
use Rattle.plant_model.specs.declared.parts.Parts.{Parts}
use Rattle.plant_model.specs.declared.place.PlantFault.{PlantFault}
use Rattle.plant_model.specs.Parts.{seen_parts}
use Rattle.plant_model.specs.Faults.{faults_of, IsSound}
use Rattle.plant_model.proofs.NoFaults.{sound_parts}
use Rattle.plant_model.proofs.SeenParts.{faults_seen, seen_twice}
use Rattle.plant_model.proofs.plant.make.Goals as goal

-- the test that found nothing
sound_seen : (seen : Parts) (tested : Result (Unit {0}) PlantFault) (u : Unit {0}) → result_err tested ≡ first_of (faults_of seen) → tested ≡ Ok u
    → IsSound seen
sound_seen seen tested u first ok = nil_of_none (faults_of seen) (sym first ∙ ap result_err ok)

-- so nothing is wrong with the parts as they were given
sound_given : (parts seen : Parts) → seen ≡ seen_parts parts → IsSound seen → IsSound parts
sound_given parts seen is sound = sym (ap faults_of is ∙ faults_seen parts) ∙ sound

pub returns-in-Err-clause-refusal : goal.returns-in-Err-clause-refusal
returns-in-Err-clause-refusal c =
    sym (ap (λ faults. first_of faults) (ap faults_of c.without_storage_demand-parts.ensures ∙ faults_seen c.args.parts))
    ∙ sym c.first_fault.ensures
    ∙ ap result_err c.in-Err.is

pub resolve_all-requires : goal.resolve_all-requires
resolve_all-requires c = sound_parts c.without_storage_demand-parts.result (sound_seen _ _ _ c.first_fault.ensures c.in_default.is)

pub invariant_of-result : goal.invariant_of-result
invariant_of-result c =
    let IsSeen : Parts → Type 0 = λ parts. seen_parts parts ≡ parts in
    record {
      sound = sound_seen _ _ _ c.first_fault.ensures c.in_default.is;
      seen = subst IsSeen (sym c.without_storage_demand-parts.ensures) (seen_twice c.args.parts);
      table = c.in-Ok.ensures;
    }

pub returns-in-Ok-clause-refusal : goal.returns-in-Ok-clause-refusal
returns-in-Ok-clause-refusal c =
    sound_given c.args.parts c.without_storage_demand-parts.result c.without_storage_demand-parts.ensures
    (sound_seen _ _ _ c.first_fault.ensures c.in_default.is)

pub returns-in-Err-resolve_all-clause-refusal : goal.returns-in-Err-resolve_all-clause-refusal
returns-in-Err-resolve_all-clause-refusal c =
    sound_given c.args.parts c.without_storage_demand-parts.result c.without_storage_demand-parts.ensures
    (sound_seen _ _ _ c.first_fault.ensures c.in_default.is)
