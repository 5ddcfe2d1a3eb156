-- The rules that are asked at the end, by their names in the code.
use Rattle.std.specs.Prelude.{ℕ, Bool, List}
use Rattle.plant_model.specs.declared.parts.Parts.{Parts}
use Rattle.plant_model.specs.declared.details.PlaceInfo.{PlaceInfo}
use Rattle.replay_core.specs.declared.timed.Timed.{Timed}
use Rattle.replay_core.specs.declared.end_rules.EndRule.{EndRule}
use Rattle.replay_core.specs.declared.end_rules.EndRule.TheVariants.{Emptied, Demand, Charges}
use Rattle.replay_core.specs.State.{state_after}
use Rattle.replay_core.specs.Rules.{is_emptied, meets_demand, meets_charges}

-- the number of a rule
abbrev pub number_of : EndRule → ℕ
number_of Emptied = 12
number_of Demand = 13
number_of Charges = 14

-- the rule holds of the place where these have run
abbrev pub holds_at : Parts → List Timed → EndRule → ℕ → PlaceInfo → Bool
holds_at parts steps Emptied p place = is_emptied (state_after parts steps) p place
holds_at parts steps Demand p place = meets_demand parts steps p place
holds_at parts steps Charges p place = meets_charges parts steps p place
