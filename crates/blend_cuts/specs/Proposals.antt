-- Cuts that are proposed.
use Rattle.std.specs.Prelude.{◌≡◌, ℕ, ◌≤◌, true, List, length, All}
use Rattle.plant_model.specs.declared.parts.Parts.{Parts}
use Rattle.slot_box.specs.declared.cut.CutParams.{CutParams}
use Rattle.blend_cuts.specs.Cuts.{is_valid}

-- at most so many, each of them valid
pub record AreProposed (parts : Parts) (room : ℕ) (cuts : List CutParams) : Type 0 where
  pub few : length cuts ≤ room
  pub valid : All (λ cut. is_valid parts cut ≡ true) cuts
