-- What every number gives.
use Rattle.std.specs.Prelude.{ℕ, ◌<◌, ◌^◌}
use Rattle.plant_model.specs.Faults.{IsSound}
use Rattle.plant_maker.specs.Made.{made_parts}

-- nothing is wrong in a plant that is made
abbrev pub MadePlantsAreSound : Type 0
MadePlantsAreSound = (number : ℕ) → number < 2 ^ 32 → IsSound (made_parts number)
