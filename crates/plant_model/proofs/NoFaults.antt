-- Parts in which no fault stands are small, and each of their entries is sound.
use Rattle.std.proofs.Common.{None, ◌≡◌, ℕ, ◌+◌, ◌<◌, true, List, [], length, get_or, arith}
use Rattle.std.proofs.lemmas.Bool.{and_parts}
use Rattle.std.proofs.lemmas.Bool.Decides.{nat_tests}
use Rattle.std.specs.Prelude.{pos}
use Rattle.limits.specs.declared.TheConstants.{MOST_RATE, MOST_SLOTS, MOST_VOLUME}
use Rattle.item_lists.specs.Faults.{first_of, each_from}
use Rattle.item_lists.proofs.FaultLaws.{no_faults, nil_of_none, nil_of_append, holds_of_nil, each_of_nil}
use Rattle.plant_model.specs.declared.parts.CrudePart.{CrudePart}
use Rattle.plant_model.specs.declared.parts.VesselPart.{VesselPart}
use Rattle.plant_model.specs.declared.parts.TankPart.{TankPart}
use Rattle.plant_model.specs.declared.parts.UnitPart.{UnitPart}
use Rattle.plant_model.specs.declared.parts.OperationPart.{OperationPart}
use Rattle.plant_model.specs.declared.parts.Parts.{Parts}
use Rattle.plant_model.specs.declared.place.Section.{Section}
use Rattle.plant_model.specs.declared.place.Section.TheVariants.{Vessels, Storage, Charging}
use Rattle.plant_model.specs.Parts.{kind_named, arrival_named}
use Rattle.plant_model.specs.Faults.{faults_of, entry_faults, is_range, is_window, limit_count, are_limits, horizon_faults, count_faults, margin_faults, property_count_faults, property_faults, amount_count_faults, amount_faults, arrival_faults, level_faults, first_level_faults, demand_faults, charge_count_faults, route_faults, range_faults, all_name_faults, all_repeat_faults, crude_faults, all_amount_faults, all_arrival_faults, level_and_demand_faults, operation_faults, berth_faults, demurrage_faults, berthing_faults, IsSound}
use Rattle.plant_model.specs.inside.SoundParts.{IsPairWithin, SoundCrude, SoundVessel, SoundTank, SoundOperation, SoundParts, FewEntries}
use Rattle.plant_model.proofs.FaultTests.{equal_is, le_is, within_is, range_is, within_all, window_is, limits_are}

-- each group of faults is empty
pub record NoneStand (parts : Parts) : Type 0 where
  pub counts : count_faults parts ≡ []
  pub names : all_name_faults parts ≡ []
  pub repeats : all_repeat_faults parts ≡ []
  pub crudes : crude_faults parts ≡ []
  pub amounts : all_amount_faults parts ≡ []
  pub arrivals : all_arrival_faults parts ≡ []
  pub levels : level_and_demand_faults parts ≡ []
  pub operations : operation_faults parts ≡ []
  pub berths : berthing_faults parts ≡ []

pub none_stand : (parts : Parts) → IsSound parts → NoneStand parts
unfolding faults_of entry_faults
none_stand parts sound =
    let to_entries = nil_of_append _ _ sound in
    let to_berths = nil_of_append _ _ to_entries.1 in
    let to_operations = nil_of_append _ _ to_berths.0 in
    let to_levels = nil_of_append _ _ to_operations.0 in
    let to_arrivals = nil_of_append _ _ to_levels.0 in
    let to_amounts = nil_of_append _ _ to_arrivals.0 in
    let to_crudes = nil_of_append _ _ to_amounts.0 in
    let to_repeats = nil_of_append _ _ to_crudes.0 in
    record {
      counts = to_entries.0;
      names = to_repeats.0;
      repeats = to_repeats.1;
      crudes = to_crudes.1;
      amounts = to_amounts.1;
      arrivals = to_arrivals.1;
      levels = to_levels.1;
      operations = to_operations.1;
      berths = to_berths.1;
    }

pub few_entries : (parts : Parts) → count_faults parts ≡ [] → FewEntries parts
unfolding count_faults
few_entries parts none = record {
  some_crude = grind (arith, nat_tests, no_faults);
  crudes = grind (arith, nat_tests, no_faults);
  properties = grind (arith, nat_tests, no_faults);
  vessels = grind (arith, nat_tests, no_faults);
  tanks = grind (arith, nat_tests, no_faults);
  units = grind (arith, nat_tests, no_faults);
  operations = grind (arith, nat_tests, no_faults);
}

pub sound_crude : (parts : Parts) → crude_faults parts ≡ [] → (c : ℕ) (d : CrudePart) → c < length parts.crudes → SoundCrude parts (get_or parts.crudes c d)
unfolding crude_faults
sound_crude parts none c d within =
    let margins : each_from margin_faults 1 parts.crudes ≡ [] = grind (arith, no_faults) in
    let counts : each_from (property_count_faults (length parts.properties)) 1 parts.crudes ≡ [] = grind (arith, no_faults) in
    let values : each_from property_faults 1 parts.crudes ≡ [] = grind (arith, no_faults) in
    record {
      margin = within_is _ _ _ (holds_of_nil _ _ (each_of_nil margin_faults 1 c parts.crudes d margins within));
      properties = within_all _ _ _
          (equal_is _ _ (holds_of_nil _ _ (each_of_nil (property_count_faults (length parts.properties)) 1 c parts.crudes d counts within)))
          (holds_of_nil _ _ (each_of_nil property_faults 1 c parts.crudes d values within));
    }

pub sound_vessel : (parts : Parts) → NoneStand parts → (i : ℕ) (d : VesselPart) → i < length parts.vessels → SoundVessel parts (get_or parts.vessels i d)
unfolding all_amount_faults all_arrival_faults berthing_faults
sound_vessel parts none i d within =
    let no_amounts : all_amount_faults parts ≡ [] = none.amounts in
    let no_arrivals : all_arrival_faults parts ≡ [] = none.arrivals in
    let no_berths : berthing_faults parts ≡ [] = none.berths in
    let berths : each_from berth_faults 1 parts.vessels ≡ [] = grind (arith, no_faults) in
    let demurrages : each_from demurrage_faults 1 parts.vessels ≡ [] = grind (arith, no_faults) in
    let arrivals : each_from (arrival_faults parts.horizon) 1 parts.vessels ≡ [] = grind (arith, no_faults) in
    let counts : each_from (λ index (vessel : VesselPart). amount_count_faults (length parts.crudes) Vessels index vessel.amounts) 1 parts.vessels
    ≡ [] = grind (arith, no_faults) in
    let amounts : each_from (λ index (vessel : VesselPart). amount_faults Vessels index vessel.amounts) 1 parts.vessels ≡ [] = grind (arith, no_faults) in
    let held = and_parts _ _
    (holds_of_nil _ _ (each_of_nil (λ index (vessel : VesselPart). amount_faults Vessels index vessel.amounts) 1 i parts.vessels d amounts within)) in
    record {
      arrival = within_is _ _ _ (holds_of_nil _ _ (each_of_nil (arrival_faults parts.horizon) 1 i parts.vessels d arrivals within));
      amounts = within_all _ _ _
          (equal_is _ _ (holds_of_nil _ _
          (each_of_nil (λ index (vessel : VesselPart). amount_count_faults
          (length parts.crudes) Vessels index vessel.amounts) 1 i parts.vessels d counts within)))
          held.0;
      total = le_is _ _ held.1;
      berth = within_is _ _ _ (holds_of_nil _ _ (each_of_nil berth_faults 1 i parts.vessels d berths within));
      demurrage = within_is _ _ _ (holds_of_nil _ _ (each_of_nil demurrage_faults 1 i parts.vessels d demurrages within));
    }

sound_tank : (parts : Parts) (section : Section) (tanks : List TankPart)
    → each_from (λ index (tank : TankPart). amount_count_faults (length parts.crudes) section index tank.amounts) 1 tanks ≡ []
    → each_from (λ index (tank : TankPart). amount_faults section index tank.amounts) 1 tanks ≡ [] → each_from (level_faults section) 1 tanks ≡ []
    → each_from (first_level_faults section) 1 tanks ≡ [] → (i : ℕ) (d : TankPart) → i < length tanks → SoundTank parts (get_or tanks i d)
sound_tank parts section tanks counts amounts levels first_levels i d within =
    let held = and_parts _ _
    (holds_of_nil _ _ (each_of_nil (λ index (tank : TankPart). amount_faults section index tank.amounts) 1 i tanks d amounts within)) in
    record {
      levels = range_is _ _ _ (holds_of_nil _ _ (each_of_nil (level_faults section) 1 i tanks d levels within));
      amounts = within_all _ _ _
          (equal_is _ _ (holds_of_nil _ _
          (each_of_nil (λ index (tank : TankPart). amount_count_faults (length parts.crudes) section index tank.amounts) 1 i tanks d counts within)))
          held.0;
      total = within_is _ _ _ (holds_of_nil _ _ (each_of_nil (first_level_faults section) 1 i tanks d first_levels within));
    }

pub sound_storage : (parts : Parts) → NoneStand parts → (i : ℕ) (d : TankPart) → i < length parts.storage → SoundTank parts (get_or parts.storage i d)
unfolding all_amount_faults level_and_demand_faults
sound_storage parts none =
    let no_amounts : all_amount_faults parts ≡ [] = none.amounts in
    let no_levels : level_and_demand_faults parts ≡ [] = none.levels in
    sound_tank parts Storage parts.storage (grind (arith, no_faults)) (grind (arith, no_faults)) (grind (arith, no_faults)) (grind (arith, no_faults))

pub sound_charging : (parts : Parts) → NoneStand parts → (i : ℕ) (d : TankPart) → i < length parts.charging → SoundTank parts (get_or parts.charging i d)
unfolding all_amount_faults level_and_demand_faults
sound_charging parts none =
    let no_amounts : all_amount_faults parts ≡ [] = none.amounts in
    let no_levels : level_and_demand_faults parts ≡ [] = none.levels in
    sound_tank parts Charging parts.charging (grind (arith, no_faults)) (grind (arith, no_faults)) (grind (arith, no_faults)) (grind (arith, no_faults))

pub sound_demand : (parts : Parts) → level_and_demand_faults parts ≡ [] → (i : ℕ) (d : TankPart) → i < length parts.charging
    → IsPairWithin (pos 0) (pos MOST_VOLUME) (get_or parts.charging i d).demand
unfolding level_and_demand_faults
sound_demand parts none i d within =
    let demands : each_from demand_faults 1 parts.charging ≡ [] = grind (arith, no_faults) in
    range_is _ _ _ (holds_of_nil _ _ (each_of_nil demand_faults 1 i parts.charging d demands within))

pub sound_unit : (parts : Parts) → level_and_demand_faults parts ≡ [] → (i : ℕ) (d : UnitPart) → i < length parts.units
    → IsPairWithin (pos 0) (pos MOST_SLOTS) (get_or parts.units i d).charges
unfolding level_and_demand_faults
sound_unit parts none i d within =
    let charges : each_from charge_count_faults 1 parts.units ≡ [] = grind (arith, no_faults) in
    range_is _ _ _ (holds_of_nil _ _ (each_of_nil charge_count_faults 1 i parts.units d charges within))

-- the four ranges of an operation
range_tests : (parts : Parts) (index : ℕ) (operation : OperationPart) → range_faults parts index operation ≡ []
    → (is_range (pos 0) (pos MOST_RATE) operation.rate ≡ true) × (is_range (pos 1) (pos MOST_VOLUME) operation.volume ≡ true) ×
    (is_window parts.horizon (arrival_named parts operation.from) operation.window ≡ true) ×
    (are_limits (limit_count (length parts.properties) (kind_named parts operation.from)) operation.limits ≡ true)
range_tests parts index operation none =
    (grind (arith, no_faults), grind (arith, no_faults), grind (arith, no_faults), grind (arith, no_faults))

pub sound_operation : (parts : Parts) → operation_faults parts ≡ [] → (v : ℕ) (d : OperationPart) → v < length parts.operations
    → SoundOperation parts (get_or parts.operations v d)
unfolding operation_faults
sound_operation parts none v d within =
    let routes : each_from (route_faults parts) 1 parts.operations ≡ [] = grind (arith, no_faults) in
    let ranges : each_from (range_faults parts) 1 parts.operations ≡ [] = grind (arith, no_faults) in
    let tests = range_tests parts (1 + v) (get_or parts.operations v d) (each_of_nil (range_faults parts) 1 v parts.operations d ranges within) in
    let window = window_is _ _ _ tests.2 in
    let limits = limits_are _ _ tests.3 in
    record {
      route = holds_of_nil _ _ (each_of_nil (route_faults parts) 1 v parts.operations d routes within);
      rate = range_is _ _ _ tests.0;
      volume = range_is _ _ _ tests.1;
      window = window.0;
      not_empty = window.1;
      after_arrival = window.2;
      limit_count = limits.0;
      limits = limits.1;
    }

pub sound_parts : (parts : Parts) → IsSound parts → SoundParts parts
unfolding count_faults
sound_parts parts sound =
    let none = none_stand parts sound in
    let no_counts : count_faults parts ≡ [] = none.counts in
    let horizon : horizon_faults parts ≡ [] = grind (arith, no_faults) in
    record {
      horizon = within_is _ _ _ (holds_of_nil _ _ horizon);
      few = few_entries parts no_counts;
      each_crude = sound_crude parts none.crudes;
      each_vessel = sound_vessel parts none;
      each_storage = sound_storage parts none;
      each_charging = sound_charging parts none;
      each_demand = sound_demand parts none.levels;
      each_unit = sound_unit parts none.levels;
      each_operation = sound_operation parts none.operations;
    }

-- no fault among the counts
pub few_of_none : (parts : Parts) → first_of (count_faults parts) ≡ None → FewEntries parts
few_of_none parts none = few_entries parts (nil_of_none (count_faults parts) none)
